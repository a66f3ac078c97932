use Rattle.std.proofs.Common.{◌≡◌, drop}
use Rattle.world_state.specs.Checks.{apart_step, passes}
use Rattle.world_state.proofs.checks.follow.Given as goal

abbrev pub invariant-loop-block : goal.invariant-loop-block
invariant-loop-block l = passes apart_step l.end (drop l.block-index l.blocks) ≡ passes apart_step 0 l.blocks
