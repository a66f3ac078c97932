use Rattle.std.proofs.Common.{◌≡◌, drop}
use Rattle.world_state.specs.Checks.{parent_step, passes}
use Rattle.world_state.proofs.checks.have_parents.Given as goal

abbrev pub invariant-loop-found : goal.invariant-loop-found
invariant-loop-found l =
    (l.number ≡ l.found-index) × (passes parent_step l.number (drop l.found-index l.stored) ≡ passes parent_step 0 l.stored)
