use Rattle.std.proofs.Common.{◌≡◌, ◌+◌, ◌≤◌, drop}
use Rattle.tierra_model.specs.Counting.{sum_of}
use Rattle.tierra_model.specs.SceneRun.{births_of}
use Rattle.world_core.proofs.prepared.births_in.Given as goal

abbrev pub invariant-loop-event : goal.invariant-loop-event
invariant-loop-event l = (l.births + sum_of births_of (drop l.event-index l.events) ≡ sum_of births_of l.events) × (l.births ≤ l.event-index)
