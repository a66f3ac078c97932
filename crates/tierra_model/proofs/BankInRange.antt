-- The groups of a sound world are in the ranges.
use Rattle.std.proofs.Common.{ℕ, zero, suc, ◌+◌, ◌^◌, ◌<◌, ◌≤◌, Bool, true, false, cond, List, [], ◌∷◌, refl, subst, arith, length}
use Rattle.std.specs.Prelude.{Some, None, Option, IfSome, All, map, option_map, ◌==◌, if◌then◌else◌}
use Rattle.std.proofs.lemmas.List.Elements.{All-nil, All-cons, All-head, All-tail, All-append}
use Rattle.tierra_model.specs.declared.genebank.Saved.{Saved}
use Rattle.tierra_model.specs.Laws.{BankInRange}
use Rattle.tierra_model.specs.Counting.{sum_of}
use Rattle.tierra_model.specs.Ranges.{IsCode, AreEfforts}
use Rattle.tierra_model.specs.World.{World, Genotype, Saving, genotype_at}
use Rattle.tierra_model.specs.Sound.{IsSound, saved_size}
use Rattle.tierra_model.specs.Serial.{serial}
use Rattle.tierra_model.specs.Groups.{GroupFields, IsName, IsSaved, IsGroup}
use Rattle.tierra_model.specs.Genebank.{number_before, name_of, saved_of, saved_in, group_if_any, groups_below}
use Rattle.tierra_model.specs.declared.genebank.Form.TheVariants as form
use Rattle.tierra_model.proofs.Sound.{sound-saved_below}
use Rattle.tierra_model.proofs.StartIsSound.{serial_is_sound}
use Rattle.tierra_model.proofs.BankIsGroups.{Among, of_quantum, parent_at, bank_is_groups}

-- ---- one saved genotype

rank_most : (size : ℕ) (gs : List Genotype) (k : ℕ) → number_before size gs k ≤ k
rank_most size gs zero = omega arith
rank_most size [] (suc k) = omega arith
rank_most size (g ∷ gs) (suc k) = one (length g.code == size) (rank_most size gs k)
  where
    one : (b : Bool) → number_before size gs k ≤ k → (if b then 1 else 0) + number_before size gs k ≤ suc k
    one true r = omega arith
    one false r = omega arith

at : (P : Genotype → Type 0) (gs : List Genotype) (k : ℕ) → k < length gs → All P gs → P (genotype_at gs k)
at P [] k h a = absurd (omega arith)
at P (g ∷ gs) zero h a = All-head P g gs a
at P (g ∷ gs) (suc k) h a = at P gs k (omega arith) (All-tail P g gs a)

is_name : (w : World) (k : ℕ) → IsSound w → k < length w.genotypes → IsName (name_of w.genotypes k)
is_name w k s h =
    let code = at (λ (g : Genotype). IsCode g.code) w.genotypes k h s.written in
    (code.0, code.1, omega (arith, rank_most (length (genotype_at w.genotypes k).code) w.genotypes k, s.genotype_count, s.next_birth, s.quanta))

parent_named : (w : World) (k : ℕ) (o : Option ℕ) → IsSound w → k < length w.genotypes → IfSome o (λ p. p < k)
    → IfSome (option_map (name_of w.genotypes) o) IsName
parent_named w k None s h b = tt
parent_named w k (Some p) s h b = is_name w p s (omega arith)

is_saved : (w : World) (x : Saving) → IsSound w → x.genotype < length w.genotypes → AreEfforts x.first_effort x.second_effort
    → IsSaved form.Two (saved_of w.genotypes x)
is_saved w x s h e =
    let k : ℕ = x.genotype in
    record {
      name = is_name w k s h;
      sized = refl;
      code = at (λ (g : Genotype). IsCode g.code) w.genotypes k h s.written;
      parent = parent_named w k (genotype_at w.genotypes k).parent s h
          (subst (λ m. IfSome (genotype_at w.genotypes k).parent (λ p. p < m)) (omega arith) (parent_at 0 w.genotypes k h s.parents));
      efforts = e;
    }

-- ---- a group

abbrev Kept : Saving → Type 0
Kept x = AreEfforts x.first_effort x.second_effort

are_saved : (w : World) (q : ℕ) (xs : List Saving) → IsSound w → All (Among (length w.genotypes)) xs → All Kept xs
    → All (IsSaved form.Two) (map (saved_of w.genotypes) (of_quantum q xs))
are_saved w q [] s a e = All-nil (IsSaved form.Two)
are_saved w q (x ∷ xs) s a e =
    go (x.quantum == q) (is_saved w x s (All-head (Among (length w.genotypes)) x xs a) (All-head Kept x xs e))
    (are_saved w q xs s (All-tail (Among (length w.genotypes)) x xs a) (All-tail Kept x xs e))
  where
    rest : List Saving
    rest = of_quantum q xs

    go : (b : Bool) → IsSaved form.Two (saved_of w.genotypes x) → All (IsSaved form.Two) (map (saved_of w.genotypes) rest)
        → All (IsSaved form.Two) (map (saved_of w.genotypes) (cond b (x ∷ rest) rest))
    go true h t = All-cons (IsSaved form.Two) (saved_of w.genotypes x) (map (saved_of w.genotypes) rest) h t
    go false h t = t

abbrev bytes_of : Saved → ℕ
bytes_of s = 4 + 8 + 4 + 8 + 32 + length s.code

bytes_most : (gs : List Genotype) (q : ℕ) (xs : List Saving) → sum_of bytes_of (map (saved_of gs) (of_quantum q xs)) ≤ saved_size gs xs q
bytes_most gs q [] = omega arith
bytes_most gs q (x ∷ xs) = go (x.quantum == q) (bytes_most gs q xs)
  where
    rest : List Saving
    rest = of_quantum q xs

    go : (b : Bool) → sum_of bytes_of (map (saved_of gs) rest) ≤ saved_size gs xs q
        → sum_of bytes_of (map (saved_of gs) (cond b (x ∷ rest) rest)) ≤ (if b then length (genotype_at gs x.genotype).code + 100 else 0) + saved_size gs xs q
    go true h = omega arith
    go false h = omega arith

is_group : (q : ℕ) (xs : List Saved) → All (IsSaved form.Two) xs → sum_of bytes_of xs < 2 ^ 30 → All IsGroup (group_if_any q xs)
is_group q [] a h = All-nil IsGroup
is_group q (x ∷ xs) a h =
    let g : GroupFields = record { quantum = q; form = form.Two; saved = x ∷ xs } in
    All-cons IsGroup g [] (record { some = omega arith; each = a; payload = omega arith }) (All-nil IsGroup)

are_groups : (w : World) (m : ℕ) → IsSound w → All IsGroup (groups_below w m)
are_groups w zero s = All-nil IsGroup
are_groups w (suc q) s =
    All-append IsGroup (groups_below w q) (group_if_any q (saved_in q w)) (are_groups w q s)
    (is_group q (saved_in q w) (are_saved w q w.saved s (sound-saved_below w s) s.saved_efforts) (omega (arith, bytes_most w.genotypes q w.saved, s.sizes q)))

pub bank_in_range : BankInRange
bank_in_range setup n h few =
    let r = serial_is_sound setup n h few in
    subst (λ l. All IsGroup l) (bank_is_groups setup n h few) (are_groups (serial setup n) ((serial setup n).quanta + 1) r.sound)
