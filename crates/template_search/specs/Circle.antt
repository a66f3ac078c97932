-- A full circle of candidates.
use Rattle.std.specs.Prelude.{List, None, find, length, ℕ, ◌≡◌}
use Rattle.tierra_model.specs.declared.searching.Way.{Way}
use Rattle.tierra_model.specs.Search.{candidates, is_complement}

-- no candidate at a distance of 1 to n is a complement of the template vs
abbrev pub NoneInCircle : ℕ → (ℕ → ℕ) → ℕ → Way → List ℕ → Type 0
NoneInCircle n cells ip way vs = find (is_complement n cells vs) (candidates n ip (length vs) way n 1) ≡ None
