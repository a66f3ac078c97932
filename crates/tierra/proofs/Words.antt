-- Words that are taken one by one.
use Rattle.std.specs.Prelude.{◌≡◌, ◌++◌, [], ◌∷◌, List, Option, None, Some, drop, length}
use Rattle.std.proofs.Common.{ap, arith, refl, subst, sym}
use Rattle.std.specs.Option.{option_to_list}
use Rattle.std.specs.Vec.Iter.{into_iter_items, into_iter_len, into_iter_steps}
use Rattle.std.specs.declared.vec.IntoIter.{IntoIter}

no_items : {A : Type 0} (xs : List A) → length xs ≡ 0 → xs ≡ drop 1 xs
no_items [] e = refl
no_items (x ∷ xs) e = absurd (omega (arith, e))

-- what is left after one was taken is all but the first
pub taken_is_first : {X Z : Type 0} (s t : IntoIter X Z) (r : Option X) → into_iter_steps s r t
    → into_iter_items s ≡ option_to_list r ++ into_iter_items t
    → into_iter_len t ≡ length (into_iter_items t) → into_iter_items t ≡ drop 1 (into_iter_items s)
taken_is_first s t None steps items long =
    let none_left : length (into_iter_items t) ≡ 0 = omega (arith, steps.1, long) in
    subst (λ all. into_iter_items t ≡ drop 1 all) (sym items) (no_items (into_iter_items t) none_left)
taken_is_first s t (Some x) steps items long = sym (ap (drop 1) steps.0)
