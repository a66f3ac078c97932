-- Marks are let go, one after another, until no cell is known.
use Rattle.std.proofs.Common.{◌≡◌, ℕ, zero, suc, ◌+◌, ◌<◌, ◌≤◌, Bool, true, false, List, [], ◌∷◌, refl, sym, ◌∙◌, ap, subst, arith, length, inl, inr, add-one}
use Rattle.std.proofs.Common.{drop, get_or, get_or-set_other, length-set}
use Rattle.std.specs.Prelude.{◌==◌, ◌||◌, slice_index_or, slice_set}
use Rattle.std.specs.List.{list_any}
use Rattle.std.proofs.Math.Seq.{drop-cons}
use Rattle.std.proofs.lemmas.Bool.Decides.{eqb_tells, nat_tests}
use Rattle.std.proofs.lemmas.Grind.{get_or-set_at}
use Rattle.std.proofs.lemmas.List.{length-map}
use Rattle.tierra_model.specs.declared.events.Event.{Event}
use Rattle.tierra_model.specs.declared.events.Event.TheVariants as event
use Rattle.tierra_model.specs.Reads.{is_noted, writes}
use Rattle.tierra_model.specs.SceneRun.{SceneRun, is_known}
use Rattle.tierra_model.proofs.Each.{Each}
use Rattle.quantum_run.specs.Marks.{IsUnknown, KnownAre, is_code, known_in, no_mark}
use Rattle.quantum_run.proofs.Marked.{known-at}

-- the mark of one cell is let go
one-less : (these those : ℕ → Bool) (at : ℕ) (ms : List ℕ) → KnownAre these ms → ((p : ℕ) → these p ≡ true → (p == at) ≡ false → those p ≡ true)
    → KnownAre those (slice_set ms at no_mark)
one-less these those at ms h step p within known =
    let below : p < length ms = omega (arith, within, length-set ms at no_mark) in
    elim (eqb_tells p at) [
      | inl e ↦
          let here : get_or (slice_set ms at no_mark) p no_mark ≡ no_mark = get_or-set_at ms at p no_mark no_mark e.1 (omega (arith, e.1, below)) in
          let no : true ≡ false = sym known ∙ ap is_code here in
          absurd (let n : ⊥ = cc in n)
      | inr e ↦ step p (h p below (sym (ap is_code (get_or-set_other ms at p no_mark no_mark e.1)) ∙ known)) e.0
    ]

drop-past : {X : Type 0} (xs : List X) (k : ℕ) → length xs ≤ k → drop k xs ≡ []
drop-past [] zero h = refl
drop-past [] (suc k) h = refl
drop-past (x ∷ xs) zero h = absurd (omega arith)
drop-past (x ∷ xs) (suc k) h = drop-past xs k (omega arith)

either-other : (a b c : Bool) → ((a || b) || c) ≡ true → a ≡ false → (b || c) ≡ true
either-other true b c h none = cc
either-other false b c h none = h

other : (p at : ℕ) → (p == at) ≡ false → (at == p) ≡ false
other p at h = grind (arith, nat_tests)

-- a cell that was read
pub forget-cell : (cells : List (ℕ × ℕ)) (written : ℕ → Bool) (k : ℕ) (ms : List ℕ) → k < length cells
    → KnownAre (λ p. is_noted (drop k cells) p || written p) ms
    → KnownAre (λ p. is_noted (drop (k + 1) cells) p || written p) (slice_set ms (get_or cells k (0, 0)).0 no_mark)
forget-cell cells written k ms within h =
    let at : ℕ = (get_or cells k (0, 0)).0 in
    let rest : List (ℕ × ℕ) = drop (suc k) cells in
    let known : KnownAre (λ p. is_noted (get_or cells k (0, 0) ∷ rest) p || written p) ms =
    subst (λ (l : List (ℕ × ℕ)). KnownAre (λ p. is_noted l p || written p) ms) (drop-cons cells k (0, 0) within) h in
    subst (λ (n : ℕ). KnownAre (λ p. is_noted (drop n cells) p || written p) (slice_set ms at no_mark)) (sym (add-one k))
    (one-less (λ p. is_noted (get_or cells k (0, 0) ∷ rest) p || written p) (λ p. is_noted rest p || written p) at ms known
    (λ p here apart. either-other (at == p) (is_noted rest p) (written p) here (other p at apart)))

-- all of them
pub cells-forgotten : (cells : List (ℕ × ℕ)) (written : ℕ → Bool) (k : ℕ) (ms : List ℕ) → length cells ≤ k
    → KnownAre (λ p. is_noted (drop k cells) p || written p) ms → KnownAre written ms
cells-forgotten cells written k ms past h = subst (λ (l : List (ℕ × ℕ)). KnownAre (λ p. is_noted l p || written p) ms) (drop-past cells k past) h

either-last : (a b : Bool) → (a || b) ≡ true → a ≡ false → b ≡ true
either-last true b h none = cc
either-last false b h none = h

-- an event that wrote a cell
pub forget-write : (events : List Event) (k at value : ℕ) (d : Event) (ms : List ℕ) → k < length events → get_or events k d ≡ event.Write at value
    → KnownAre (λ p. list_any (writes p) (drop k events)) ms → KnownAre (λ p. list_any (writes p) (drop (k + 1) events)) (slice_set ms at no_mark)
forget-write events k at value d ms within write h =
    let rest : List Event = drop (suc k) events in
    let split : drop k events ≡ event.Write at value ∷ rest = drop-cons events k d within ∙ ap (λ (x : Event). x ∷ rest) write in
    let known : KnownAre (λ p. list_any (writes p) (event.Write at value ∷ rest)) ms =
    subst (λ (l : List Event). KnownAre (λ p. list_any (writes p) l) ms) split h in
    subst (λ (n : ℕ). KnownAre (λ p. list_any (writes p) (drop n events)) (slice_set ms at no_mark)) (sym (add-one k))
    (one-less (λ p. list_any (writes p) (event.Write at value ∷ rest)) (λ p. list_any (writes p) rest) at ms known
    (λ p here apart. either-last (at == p) (list_any (writes p) rest) here (other p at apart)))

no-write : (e : Event) (p : ℕ) → ((at value : ℕ) → e ≡ event.Write at value → ⊥) → writes p e ≡ false
no-write (event.Write at value) p h = absurd (h at value refl)
no-write event.Err p h = refl
no-write event.Good p h = refl
no-write event.GiveUp p h = refl
no-write (event.Mal at size) p h = refl
no-write (event.Reap place) p h = refl
no-write (event.Divide ran moved) p h = refl

-- another event
pub forget-none : (events : List Event) (k : ℕ) (d : Event) (ms : List ℕ) → k < length events → ((at value : ℕ) → get_or events k d ≡ event.Write at value → ⊥)
    → KnownAre (λ p. list_any (writes p) (drop k events)) ms → KnownAre (λ p. list_any (writes p) (drop (k + 1) events)) ms
forget-none events k d ms within none h =
    let rest : List Event = drop (suc k) events in
    let e : Event = get_or events k d in
    let known : KnownAre (λ p. list_any (writes p) (e ∷ rest)) ms =
    subst (λ (l : List Event). KnownAre (λ p. list_any (writes p) l) ms) (drop-cons events k d within) h in
    subst (λ (n : ℕ). KnownAre (λ p. list_any (writes p) (drop n events)) ms) (sym (add-one k))
    (λ p below here. either-last (writes p e) (list_any (writes p) rest) (known p below here) (no-write e p none))

-- in the end no cell is known
all-forgotten : (these : ℕ → Bool) (ms : List ℕ) → ((p : ℕ) → these p ≡ false) → KnownAre these ms → Each IsUnknown ms
all-forgotten these [] none h = tt
all-forgotten these (m ∷ ms) none h =
    (first (is_code m) refl, all-forgotten (λ p. these (suc p)) ms (λ p. none (suc p)) (λ p below here. h (suc p) (omega (arith, below)) here))
  where
    first : (b : Bool) → is_code m ≡ b → is_code m ≡ false
    first true known = absurd (let yes : these 0 ≡ true = h 0 (omega arith) known in let no : these 0 ≡ false = none 0 in let n : ⊥ = cc in n)
    first false known = known

pub events-forgotten : (events : List Event) (k : ℕ) (ms : List ℕ) → length events ≤ k → KnownAre (λ p. list_any (writes p) (drop k events)) ms
    → Each IsUnknown ms
events-forgotten events k ms past h =
    all-forgotten (λ p. list_any (writes p) (drop k events)) ms (λ p. ap (list_any (writes p)) (drop-past events k past)) h

-- what the marks know is what the run knows
pub known-are : (x : SceneRun) (known : List Bool) (size : ℕ) (ms : List ℕ) → known_in ms ≡ known → length known ≡ size
    → ((p : ℕ) → p < size → slice_index_or known p false ≡ is_known x p) → KnownAre (is_known x) ms
known-are x known size ms is long h p below here =
    let within : p < size = omega (arith, below, long, ap length is, length-map ms is_code) in
    sym (h p within) ∙ ap (λ (l : List Bool). slice_index_or l p false) (sym is) ∙ known-at ms p below ∙ here
