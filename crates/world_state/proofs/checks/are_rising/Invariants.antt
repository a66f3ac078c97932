use Rattle.std.proofs.Common.{◌≡◌, drop}
use Rattle.world_state.specs.Checks.{passes, rising_step}
use Rattle.world_state.proofs.checks.are_rising.Given as goal

abbrev pub invariant-loop-saving : goal.invariant-loop-saving
invariant-loop-saving l = passes rising_step l.quantum (drop l.saving-index l.saved) ≡ passes rising_step 0 l.saved
