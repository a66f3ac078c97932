use Rattle.std.proofs.Common.{◌≡◌, ◌+◌, take}
use Rattle.std.specs.Prelude.{slice_range}
use Rattle.world_core.specs.Prepared.{with_writes}
use Rattle.world_core.proofs.prepared.code_after.Given as goal

abbrev pub invariant-loop-event : goal.invariant-loop-event
invariant-loop-event l =
    l.code ≡ slice_range (with_writes (take l.event-index l.events) l.running.world.soup) l.fn.block.at (l.fn.block.at + l.fn.block.size)
