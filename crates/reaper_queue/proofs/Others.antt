-- The first creature of a list other than the caller.
use Rattle.std.proofs.Common.{◌≡◌, ℕ, zero, suc, List, [], ◌∷◌, arith, refl}
use Rattle.std.proofs.lemmas.Bool.Decides.{nat_tests}
use Rattle.std.specs.Prelude.{Some, ◌==◌, find, not, option_map, slice_get, slice_index}
use Rattle.tierra_model.specs.Queue.{place_of_first_other}
use Rattle.reaper_queue.specs.Reaper.{ids_of}

pub find-other : (id : ℕ) (ids : List ℕ) → find (λ x. not (x == id)) ids ≡ option_map (slice_index ids) (place_of_first_other id ids)
find-other id [] = refl
find-other id (x ∷ xs) = grind (arith, nat_tests, find-other id xs)

pub id_of-at : (xs : List (ℕ × ℕ)) (k : ℕ) (x : ℕ × ℕ) → slice_get xs k ≡ Some x → slice_index (ids_of xs) k ≡ x.0
id_of-at [] k x h = cc
id_of-at (y ∷ ys) zero x h = cc
id_of-at (y ∷ ys) (suc k) x h = id_of-at ys k x h
