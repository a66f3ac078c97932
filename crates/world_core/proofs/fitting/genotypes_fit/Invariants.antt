use Rattle.std.proofs.Common.{All, take}
use Rattle.world_state.specs.Restoring.{HasLongNumbers}
use Rattle.world_core.proofs.fitting.genotypes_fit.Given as goal

abbrev pub invariant-loop-number : goal.invariant-loop-number
invariant-loop-number l = All HasLongNumbers (take l.number l.genotypes.genotypes)
