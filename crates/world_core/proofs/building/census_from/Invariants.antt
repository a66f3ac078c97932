use Rattle.std.proofs.Common.{◌≡◌, ℕ, take}
use Rattle.census.specs.Census.{living_of}
use Rattle.world_core.specs.Running.{number_with}
use Rattle.world_core.proofs.building.census_from.Given as goal

abbrev pub invariant-loop-creature : goal.invariant-loop-creature
invariant-loop-creature l = (g : ℕ) → living_of l.census g ≡ number_with (take l.creature-index l.living) g
