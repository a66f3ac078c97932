use Rattle.std.proofs.Common.{◌≡◌, take}
use Rattle.world_core.proofs.building.living_from.Given as goal

abbrev pub invariant-loop-creature : goal.invariant-loop-creature
invariant-loop-creature l = l.living.creatures ≡ take l.creature-index l.creatures
