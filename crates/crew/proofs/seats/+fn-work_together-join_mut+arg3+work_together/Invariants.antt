use Rattle.std.proofs.Common.{◌+◌, ◌*◌}
use Rattle.std.specs.Prelude.{length}
use Rattle.crew.proofs.seats.+fn-work_together-join_mut+arg3+work_together.Given as goal

abbrev pub decreases-work_together : goal.decreases-work_together
decreases-work_together g l = 2 * length l.others.now.items

abbrev pub decreases-join_mut+arg3 : goal.decreases-join_mut+arg3
decreases-join_mut+arg3 g l = 2 * length l.others.now.items + 1
