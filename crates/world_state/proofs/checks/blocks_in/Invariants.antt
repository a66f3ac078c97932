use Rattle.std.proofs.Common.{◌≡◌, take}
use Rattle.world_state.specs.Checks.{blocks_in}
use Rattle.world_state.proofs.checks.blocks_in.Given as goal

abbrev pub invariant-loop-creature : goal.invariant-loop-creature
invariant-loop-creature l = l.blocks.items ≡ blocks_in (take l.creature-index l.living)
