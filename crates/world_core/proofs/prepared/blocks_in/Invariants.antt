use Rattle.std.proofs.Common.{◌≡◌, ◌+◌, ◌*◌, ◌≤◌, drop}
use Rattle.tierra_model.specs.Counting.{sum_of}
use Rattle.world_core.specs.Prepared.{blocks_of}
use Rattle.world_core.proofs.prepared.blocks_in.Given as goal

abbrev pub invariant-loop-event : goal.invariant-loop-event
invariant-loop-event l = (l.blocks + sum_of blocks_of (drop l.event-index l.events) ≡ sum_of blocks_of l.events) × (l.blocks ≤ 2 * l.event-index)
