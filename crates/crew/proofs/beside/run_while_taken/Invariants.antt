use Rattle.std.proofs.Common.{◌-◌, ◌≤◌}
use Rattle.crew.specs.Beside.{IsOfRun}
use Rattle.crew.proofs.beside.run_while_taken.Given as goal

abbrev pub invariant-stretches : goal.invariant-stretches
invariant-stretches g l = IsOfRun g.C.Course.setup g.C.Course.quanta l.book × (l.book.committed ≤ l.book.quanta)

abbrev pub decreases-stretches : goal.decreases-stretches
decreases-stretches g l = l.book.quanta - l.book.committed
