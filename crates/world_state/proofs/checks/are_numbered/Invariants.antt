use Rattle.std.proofs.Common.{◌≡◌, drop}
use Rattle.world_state.specs.Checks.{number_step, passes}
use Rattle.world_state.proofs.checks.are_numbered.Given as goal

abbrev pub invariant-loop-creature : goal.invariant-loop-creature
invariant-loop-creature l =
    passes (number_step l.next_birth) l.low (drop l.creature-index l.living) ≡ passes (number_step l.next_birth) 1 l.living
