-- The list of genotypes, and what was saved, stay good as the effort of a birth is noted.
use Rattle.std.proofs.Common.{◌≡◌, ℕ, zero, suc, ◌+◌, ◌<◌, ◌≤◌, Bool, true, false, cond, List, [], ◌∷◌, refl, sym, ap, subst, length}
use Rattle.std.specs.Prelude.{Some, None, Option, IfSome, All, ◌==◌}
use Rattle.std.specs.Str.{bytes_eq}
use Rattle.std.proofs.lemmas.List.Elements.{All-cons, All-head, All-tail}
use Rattle.tierra_model.specs.declared.creatures.Effort.{Effort}
use Rattle.tierra_model.specs.Counting.{one_if}
use Rattle.tierra_model.specs.Ranges.{IsCode}
use Rattle.tierra_model.specs.World.{Genotype, Saving, genotype_at}
use Rattle.tierra_model.specs.Sound.{ParentsBelow, times_coded, saved_size}
use Rattle.tierra_model.specs.Individuals.{first_of_both, with_effort, with_effort_of}
use Rattle.tierra_model.proofs.Genotypes.{HasEfforts, Listed}
use Rattle.tierra_model.proofs.Savings.{Saves, size-same}

pub length-with_effort_of : (k bred : ℕ) (e : Effort) (gs : List Genotype) → length (with_effort_of k bred e gs) ≡ length gs
length-with_effort_of k bred e [] = refl
length-with_effort_of zero bred e (g ∷ gs) = refl
length-with_effort_of (suc k) bred e (g ∷ gs) = ap (λ (n : ℕ). suc n) (length-with_effort_of k bred e gs)

pub code-with_effort_of : (k bred : ℕ) (e : Effort) (gs : List Genotype) (j : ℕ) → (genotype_at (with_effort_of k bred e gs) j).code ≡ (genotype_at gs j).code
code-with_effort_of k bred e [] j = refl
code-with_effort_of zero bred e (g ∷ gs) zero = refl
code-with_effort_of zero bred e (g ∷ gs) (suc j) = refl
code-with_effort_of (suc k) bred e (g ∷ gs) zero = refl
code-with_effort_of (suc k) bred e (g ∷ gs) (suc j) = code-with_effort_of k bred e gs j

total-with_effort_of : (k bred : ℕ) (e : Effort) (gs : List Genotype) (j : ℕ) → (genotype_at (with_effort_of k bred e gs) j).total ≡ (genotype_at gs j).total
total-with_effort_of k bred e [] j = refl
total-with_effort_of zero bred e (g ∷ gs) zero = refl
total-with_effort_of zero bred e (g ∷ gs) (suc j) = refl
total-with_effort_of (suc k) bred e (g ∷ gs) zero = refl
total-with_effort_of (suc k) bred e (g ∷ gs) (suc j) = total-with_effort_of k bred e gs j

times_coded-with_effort_of : (k bred : ℕ) (e : Effort) (gs : List Genotype) (code : List ℕ)
    → times_coded (with_effort_of k bred e gs) code ≡ times_coded gs code
times_coded-with_effort_of k bred e [] code = refl
times_coded-with_effort_of zero bred e (g ∷ gs) code = refl
times_coded-with_effort_of (suc k) bred e (g ∷ gs) code = ap (λ (n : ℕ). one_if (bytes_eq g.code code) + n) (times_coded-with_effort_of k bred e gs code)

-- what neither effort changes
all-with_effort_of : (P : Genotype → Type 0) (k bred : ℕ) (e : Effort) (gs : List Genotype) → ((g : Genotype) → P g → P (with_effort bred e g))
    → All P gs → All P (with_effort_of k bred e gs)
all-with_effort_of P k bred e [] f h = h
all-with_effort_of P zero bred e (g ∷ gs) f h = All-cons P (with_effort bred e g) gs (f g (All-head P g gs h)) (All-tail P g gs h)
all-with_effort_of P (suc k) bred e (g ∷ gs) f h =
    All-cons P g (with_effort_of k bred e gs) (All-head P g gs h) (all-with_effort_of P k bred e gs f (All-tail P g gs h))

parents-with_effort_of : (k bred : ℕ) (e : Effort) (gs : List Genotype) (n : ℕ) → ParentsBelow n gs → ParentsBelow n (with_effort_of k bred e gs)
parents-with_effort_of k bred e [] n h = tt
parents-with_effort_of zero bred e (g ∷ gs) n h = (h.0, h.1)
parents-with_effort_of (suc k) bred e (g ∷ gs) n h = (h.0, parents-with_effort_of k bred e gs (n + 1) h.1)

abbrev IsEffort : Option Effort → Type 0
IsEffort o = IfSome o (λ (e : Effort). 1 ≤ e.ran)

is_effort : (b : Bool) (o : Option Effort) (e : Effort) → 1 ≤ e.ran → IsEffort o → IsEffort (cond b (first_of_both o e) o)
is_effort true None e r h = r
is_effort true (Some d) e r h = h
is_effort false o e r h = h

pub with_effort_of-listed : (t k bred : ℕ) (e : Effort) (gs : List Genotype) → 1 ≤ e.ran → Listed t gs → Listed t (with_effort_of k bred e gs)
with_effort_of-listed t k bred e gs r l =
    record {
      once = λ code. rw (times_coded-with_effort_of k bred e gs code) (l.once code);
      written = all-with_effort_of (λ (g : Genotype). IsCode g.code) k bred e gs (λ g h. h) l.written;
      parents = parents-with_effort_of k bred e gs 0 l.parents;
      totals = all-with_effort_of (λ (g : Genotype). g.total ≤ t) k bred e gs (λ g h. h) l.totals;
      efforts = all-with_effort_of HasEfforts k bred e gs
          (λ g h. (is_effort (bred == 1) g.first_effort e r h.0, is_effort (bred == 2) g.second_effort e r h.1)) l.efforts;
    }

pub with_effort_of-saves : (q z save_at k bred : ℕ) (e : Effort) (gs : List Genotype) (saved : List Saving) → Saves q z save_at gs saved
    → Saves q z save_at (with_effort_of k bred e gs) saved
with_effort_of-saves q z a k bred e gs saved s =
    let hs : List Genotype = with_effort_of k bred e gs in
    let size : (p : ℕ) → saved_size hs saved p ≡ saved_size gs saved p = λ p. size-same gs hs saved p (λ j h. code-with_effort_of k bred e gs j) s.known in
    record {
      once = λ j. rw (total-with_effort_of k bred e gs j) (s.once j);
      known = subst (λ n. All (λ x. x.genotype < n) saved) (sym (length-with_effort_of k bred e gs)) s.known;
      rising = s.rising;
      past = s.past;
      efforts = s.efforts;
      sizes = λ p h. rw (size p) (s.sizes p h);
      size = rw (size q) s.size;
    }
