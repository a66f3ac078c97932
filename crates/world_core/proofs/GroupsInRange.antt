-- The groups of a sound world are in the ranges.
use Rattle.std.proofs.Common.{ℕ, zero, suc, ◌+◌, ◌^◌, ◌<◌, ◌≤◌, Bool, true, false, cond, List, [], ◌∷◌, refl, subst, arith, get_or, length}
use Rattle.std.specs.Prelude.{Some, None, Option, IfSome, All, map, option_map, ◌==◌, if◌then◌else◌}
use Rattle.std.proofs.lemmas.List.Elements.{All-nil, All-cons, All-append, All-filter, All-map}
use Rattle.tierra_model.specs.declared.genebank.Saved.{Saved}
use Rattle.tierra_model.specs.Counting.{sum_of}
use Rattle.tierra_model.specs.World.{World, Genotype, Saving, genotype_at, no_genotype}
use Rattle.tierra_model.specs.Sound.{IsSound, saved_size}
use Rattle.tierra_model.specs.Groups.{GroupFields, IsName, IsSaved, IsGroup}
use Rattle.tierra_model.specs.Genebank.{name_of, saved_of, saved_in, group_if_any, groups_below}
use Rattle.tierra_model.specs.declared.genebank.Form.TheVariants as form
use Rattle.tierra_model.proofs.Sound.{sound-saved_below}
use Rattle.tierra_model.proofs.BankIsGroups.{of_quantum, parent_at}
use Rattle.genotyper.proofs.Births.{number_before_le}

name-in_range : (w : World) (k : ℕ) → IsSound w → k < length w.genotypes → IsName (name_of w.genotypes k)
name-in_range w k s h =
    let code = s.written k no_genotype h in
    (code.0, code.1, omega (arith, number_before_le (length (genotype_at w.genotypes k).code) w.genotypes k, s.genotype_count, s.next_birth, s.quanta))

parent-in_range : (w : World) (k : ℕ) (o : Option ℕ) → IsSound w → k < length w.genotypes → IfSome o (λ p. p < k)
    → IfSome (option_map (name_of w.genotypes) o) IsName
parent-in_range w k None s h b = tt
parent-in_range w k (Some p) s h b = name-in_range w p s (omega arith)

each-in_range : (w : World) → IsSound w → All (λ x. IsSaved form.Two (saved_of w.genotypes x)) w.saved
each-in_range w s i d h =
    let x : Saving = get_or w.saved i d in
    let k : ℕ = x.genotype in
    let known : k < length w.genotypes = sound-saved_below w s i d h in
    record {
      name = name-in_range w k s known;
      sized = refl;
      code = s.written k no_genotype known;
      parent = parent-in_range w k (genotype_at w.genotypes k).parent s known
          (subst (λ m. IfSome (genotype_at w.genotypes k).parent (λ p. p < m)) (omega arith) (parent_at 0 w.genotypes k known s.parents));
      efforts = s.saved_efforts i d h;
    }

saved_in-in_range : (w : World) (q : ℕ) → IsSound w → All (IsSaved form.Two) (saved_in q w)
saved_in-in_range w q s =
    All-map (IsSaved form.Two) (saved_of w.genotypes) (of_quantum q w.saved)
    (All-filter (λ x. x.quantum == q) (λ x. IsSaved form.Two (saved_of w.genotypes x)) w.saved (each-in_range w s))

abbrev bytes_of : Saved → ℕ
bytes_of s = 4 + 8 + 4 + 8 + 32 + length s.code

bytes-most : (gs : List Genotype) (q : ℕ) (xs : List Saving) → sum_of bytes_of (map (saved_of gs) (of_quantum q xs)) ≤ saved_size gs xs q
bytes-most gs q [] = omega arith
bytes-most gs q (x ∷ xs) = go (x.quantum == q) (bytes-most gs q xs)
  where
    rest : List Saving
    rest = of_quantum q xs

    go : (b : Bool) → sum_of bytes_of (map (saved_of gs) rest) ≤ saved_size gs xs q
        → sum_of bytes_of (map (saved_of gs) (cond b (x ∷ rest) rest)) ≤ (if b then length (genotype_at gs x.genotype).code + 100 else 0) + saved_size gs xs q
    go true h = omega arith
    go false h = omega arith

group-in_range : (q : ℕ) (xs : List Saved) → All (IsSaved form.Two) xs → sum_of bytes_of xs < 2 ^ 30 → All IsGroup (group_if_any q xs)
group-in_range q [] a h = All-nil IsGroup
group-in_range q (x ∷ xs) a h =
    let g : GroupFields = record { quantum = q; form = form.Two; saved = x ∷ xs } in
    All-cons IsGroup g [] (record { some = omega arith; each = a; payload = omega arith }) (All-nil IsGroup)

pub groups-in_range : (w : World) (m : ℕ) → IsSound w → All IsGroup (groups_below w m)
groups-in_range w zero s = All-nil IsGroup
groups-in_range w (suc q) s =
    All-append IsGroup (groups_below w q) (group_if_any q (saved_in q w)) (groups-in_range w q s)
    (group-in_range q (saved_in q w) (saved_in-in_range w q s) (omega (arith, bytes-most w.genotypes q w.saved, s.sizes q)))
