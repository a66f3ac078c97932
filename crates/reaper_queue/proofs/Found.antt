-- Who stands in a queue is found in it.
use Rattle.std.proofs.Common.{◌≡◌, ◌∙◌, ℕ, zero, suc, ◌<◌, List, [], ◌∷◌, get_or, length, arith, refl}
use Rattle.std.proofs.lemmas.Bool.Decides.{nat_tests}
use Rattle.std.proofs.lemmas.List.Quantifiers.{position-Some}
use Rattle.std.specs.Prelude.{None, Some, position, slice_index}
use Rattle.std.specs.List.{position_or_len}
use Rattle.tierra_model.specs.Counting.{times_in}
use Rattle.reaper_queue.specs.Reaper.{ids_of, is_of}
use Rattle.reaper_queue.specs.Standing.{IsOnce, StandsAt}

pub id_at : (xs : List (ℕ × ℕ)) (k : ℕ) → slice_index (ids_of xs) k ≡ (get_or xs k (0, 0)).0
id_at [] k = refl
id_at (x ∷ xs) zero = refl
id_at (x ∷ xs) (suc k) = id_at xs k

pub found-here : (xs : List (ℕ × ℕ)) (id k : ℕ) → IsOnce xs → position (is_of id) xs ≡ Some k → StandsAt xs id k
found-here xs id k once found =
    let there = position-Some (is_of id) xs k (0, 0) found in
    let his : (get_or xs k (0, 0)).0 ≡ id = grind (arith, nat_tests, there.1) in
    record { once = once; within = there.0; here = id_at xs k ∙ his }

found_within : (xs : List (ℕ × ℕ)) (id : ℕ) → 0 < times_in (ids_of xs) id → position_or_len (is_of id) xs < length xs
found_within [] id h = absurd (omega arith)
found_within (x ∷ xs) id h = grind (arith, nat_tests, found_within xs id)

pub found : (xs : List (ℕ × ℕ)) (id : ℕ) → 0 < times_in (ids_of xs) id → position (is_of id) xs ≡ None → ⊥
found xs id h none = grind (arith, nat_tests, found_within xs id h)
