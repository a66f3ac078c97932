use Rattle.std.proofs.Common.{◌+◌, ◌-◌, ◌*◌}
use Rattle.soup_isles.proofs.epochs.+fn-run_parts-join+arg2+fn-run_parts-join+arg3+run_parts.Given as goal

abbrev pub decreases-run_parts : goal.decreases-run_parts
decreases-run_parts g l = 2 * l.workers

abbrev pub decreases-join+arg2 : goal.decreases-join+arg2
decreases-join+arg2 g l = 2 * l.others + 1

abbrev pub decreases-join+arg3 : goal.decreases-join+arg3
decreases-join+arg3 g l = 2 * l.workers - 1
