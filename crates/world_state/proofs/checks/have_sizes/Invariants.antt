use Rattle.std.proofs.Common.{◌≡◌, ◌<◌, ◌^◌, drop}
use Rattle.world_state.specs.Checks.{passes, size_step}
use Rattle.world_state.proofs.checks.have_sizes.Given as goal

abbrev pub invariant-loop-saving : goal.invariant-loop-saving
invariant-loop-saving l =
    (l.sum < 2 ^ 30)
    × (passes (size_step l.stored) (l.quantum, l.sum) (drop l.saving-index l.saved) ≡ passes (size_step l.stored) (0, 0) l.saved)
