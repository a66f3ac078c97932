-- The place that a search found.
use Rattle.std.specs.Prelude.{ℕ}
use Rattle.tierra_model.specs.declared.searching.Found.{Found}
use Rattle.tierra_model.specs.declared.searching.Found.TheVariants.{At, NoMatch, Short}

-- P holds of the place that was found, if one was
abbrev pub IfAt : Found → (ℕ → Type 0) → Type 0
IfAt (At place) P = P place
IfAt Short P = Unit {0}
IfAt NoMatch P = Unit {0}
