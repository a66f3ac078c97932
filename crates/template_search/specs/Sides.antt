-- The candidates at one distance.
use Rattle.std.specs.Prelude.{List, [], ℕ, ◌∷◌}
use Rattle.tierra_model.specs.declared.searching.Way.{Way}
use Rattle.tierra_model.specs.declared.searching.Way.TheVariants.{Backward, Forward, Outward}

-- those of the two candidates that a search tries, in its order
abbrev pub on_sides : Way → ℕ → ℕ → List ℕ
on_sides Outward ahead behind = ahead ∷ behind ∷ []
on_sides Forward ahead behind = ahead ∷ []
on_sides Backward ahead behind = behind ∷ []
