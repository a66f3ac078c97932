-- Counting and adding up along a list.
use Rattle.std.specs.Prelude.{Bool, List, [], false, true, ℕ, ◌+◌, ◌==◌, ◌∷◌}

abbrev pub one_if : Bool → ℕ
one_if true = 1
one_if false = 0

-- the sum of f over the list
abbrev pub sum_of : {X : Type 0} → (X → ℕ) → List X → ℕ
sum_of f [] = 0
sum_of f (x ∷ xs) = f x + sum_of f xs

-- how often the list has the number
abbrev pub times_in : List ℕ → ℕ → ℕ
times_in ids id = sum_of (λ x. one_if (x == id)) ids
