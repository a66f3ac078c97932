-- Moves in the reaper queue.
use Rattle.std.specs.Prelude.{Bool, List, None, Option, Some, [], if◌then◌else◌, nat_lt, option_map, suc, zero, ℕ, ◌++◌}
use Rattle.std.specs.Prelude.{◌==◌, ◌∷◌}

-- The mover changes places with the one before it, unless the mover is first or the one before it has more errors.
abbrev pub error_move : {X : Type 0} → (X → Bool) → (X → ℕ) → List X → List X
error_move mover errors [] = []
error_move mover errors (x ∷ []) = x ∷ []
error_move mover errors (x ∷ y ∷ rest) =
    if mover y then (if nat_lt (errors y) (errors x) then x ∷ y ∷ rest else y ∷ x ∷ rest)
    else x ∷ error_move mover errors (y ∷ rest)

-- The mover changes places with the one after it, unless there is none or the mover has more errors.
abbrev pub good_move : {X : Type 0} → (X → Bool) → (X → ℕ) → List X → List X
good_move mover errors [] = []
good_move mover errors (x ∷ []) = x ∷ []
good_move mover errors (x ∷ y ∷ rest) =
    if mover x then (if nat_lt (errors y) (errors x) then x ∷ y ∷ rest else y ∷ x ∷ rest)
    else x ∷ good_move mover errors (y ∷ rest)

-- the first place of the list that is not the caller's
abbrev pub place_of_first_other : ℕ → List ℕ → Option ℕ
place_of_first_other caller [] = None
place_of_first_other caller (id ∷ ids) = if id == caller then option_map suc (place_of_first_other caller ids)
    else Some 0

abbrev pub number_of_others : ℕ → List ℕ → ℕ
number_of_others caller [] = 0
number_of_others caller (id ∷ ids) = if id == caller then number_of_others caller ids
    else suc (number_of_others caller ids)

-- the first element goes to the end
abbrev pub rotation : List ℕ → List ℕ
rotation [] = []
rotation (x ∷ xs) = xs ++ x ∷ []

-- the list without its element at the place
abbrev pub without_place : {X : Type 0} → ℕ → List X → List X
without_place k [] = []
without_place zero (x ∷ xs) = xs
without_place (suc k) (x ∷ xs) = x ∷ without_place k xs
