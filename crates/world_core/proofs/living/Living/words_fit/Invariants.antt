use Rattle.std.proofs.Common.{All, take}
use Rattle.world_state.specs.Restoring.{HasWords}
use Rattle.world_core.proofs.living.Living.words_fit.Given as goal

abbrev pub invariant-loop-place : goal.invariant-loop-place
invariant-loop-place l = All HasWords (take l.place l.self.creatures)
