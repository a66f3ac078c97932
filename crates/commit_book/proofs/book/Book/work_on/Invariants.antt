use Rattle.std.proofs.Common.{◌-◌, ◌≡◌}
use Rattle.commit_book.proofs.Working.{IsWorking}
use Rattle.commit_book.proofs.book.Book.work_on.Given as goal

abbrev pub invariant-findings : goal.invariant-findings
invariant-findings g l = record {
  working : IsWorking l.kept l.last l.fn.self l.book l.fn.steps l.steps;
  quanta : l.book.quanta ≡ l.fn.self.quanta;
}

abbrev pub decreases-findings : goal.decreases-findings
decreases-findings g l = l.book.quanta - l.book.committed
