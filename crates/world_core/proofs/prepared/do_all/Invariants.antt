use Rattle.std.proofs.Common.{drop}
use Rattle.world_core.proofs.Replaying.{Doing}
use Rattle.world_core.proofs.prepared.do_all.Given as goal

abbrev pub invariant-loop-event : goal.invariant-loop-event
invariant-loop-event l = Doing l.fn.running.world l.events l.event-index (drop l.event-index l.events) l.codes.items l.running
