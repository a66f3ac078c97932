use Rattle.std.proofs.Common.{◌≡◌, ℕ, true, take}
use Rattle.world_core.specs.Running.{can_be_set}
use Rattle.world_core.specs.Prepared.{CanWriteAll}
use Rattle.world_core.proofs.prepared.make_ready.Given as goal

abbrev pub invariant-loop-event : goal.invariant-loop-event
invariant-loop-event l =
    (l.running.world ≡ l.fn.running.world) × ((p : ℕ) → can_be_set l.fn.running p ≡ true → can_be_set l.running p ≡ true)
    × CanWriteAll l.running (take l.event-index l.events)
