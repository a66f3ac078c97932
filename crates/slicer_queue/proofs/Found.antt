-- Who stands in a queue is found in it.
use Rattle.std.proofs.Common.{◌≡◌, ℕ, ◌<◌, List, [], ◌∷◌, length, arith}
use Rattle.std.proofs.lemmas.Bool.Decides.{nat_tests}
use Rattle.std.specs.Prelude.{None, position, ◌==◌}
use Rattle.std.specs.List.{position_or_len}
use Rattle.tierra_model.specs.Counting.{times_in}

found_within : (ids : List ℕ) (id : ℕ) → 0 < times_in ids id → position_or_len (λ x. x == id) ids < length ids
found_within [] id h = absurd (omega arith)
found_within (x ∷ xs) id h = grind (arith, nat_tests, found_within xs id)

pub found : (ids : List ℕ) (id : ℕ) → 0 < times_in ids id → position (λ x. x == id) ids ≡ None → ⊥
found ids id h none = grind (arith, nat_tests, found_within ids id h)
