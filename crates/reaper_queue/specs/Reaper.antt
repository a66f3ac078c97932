-- What contracts see of a reaper queue.
use Rattle.std.specs.Prelude.{Bool, List, [], if◌then◌else◌, map, ℕ, ◌+◌, ◌==◌, ◌∷◌}

-- The creatures from the top on, each once, by birth number and error count; and how many more can enter without
-- memory.
pub record ReaperFields : Type 0 where
  pub entries : List (ℕ × ℕ)
  pub spare : ℕ

abbrev pub ids_of : List (ℕ × ℕ) → List ℕ
ids_of entries = map (λ x. x.0) entries

abbrev pub is_of : ℕ → ℕ × ℕ → Bool
is_of id x = x.0 == id

abbrev pub errors_of : ℕ × ℕ → ℕ
errors_of x = x.1

-- the entries with one more error for the creature
abbrev pub with_error : ℕ → List (ℕ × ℕ) → List (ℕ × ℕ)
with_error id entries = map (λ x. if x.0 == id then (x.0, x.1 + 1) else x) entries

-- the error count of the creature, or 0 if it is not in the queue
abbrev pub errors_in : ℕ → List (ℕ × ℕ) → ℕ
errors_in id [] = 0
errors_in id (x ∷ xs) = if x.0 == id then x.1 else errors_in id xs
