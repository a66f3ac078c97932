use Rattle.std.proofs.Common.{◌+◌, ◌*◌}
use Rattle.crew.proofs.beside.+fn-lead_and_draw-join_mut+arg3+lead_and_draw.Given as goal

abbrev pub decreases-lead_and_draw : goal.decreases-lead_and_draw
decreases-lead_and_draw g l = 2 * l.drawers + 1

abbrev pub decreases-join_mut+arg3 : goal.decreases-join_mut+arg3
decreases-join_mut+arg3 g l = 2 * l.drawers
