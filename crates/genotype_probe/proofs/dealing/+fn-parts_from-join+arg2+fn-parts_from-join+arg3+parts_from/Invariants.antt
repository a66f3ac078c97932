use Rattle.std.proofs.Common.{◌-◌, ◌*◌, ◌+◌}
use Rattle.genotype_probe.proofs.dealing.+fn-parts_from-join+arg2+fn-parts_from-join+arg3+parts_from.Given as goal

abbrev pub decreases-join+arg2 : goal.decreases-join+arg2
decreases-join+arg2 g l = 2 * (l.middle - l.first) + 1

abbrev pub decreases-join+arg3 : goal.decreases-join+arg3
decreases-join+arg3 g l = 2 * (l.last - l.middle) + 1

abbrev pub decreases-parts_from : goal.decreases-parts_from
decreases-parts_from g l = 2 * (l.last - l.first)
