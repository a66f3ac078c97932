use Rattle.std.proofs.Common.{◌≡◌, ◌-◌, length}
use Rattle.commit_book.specs.Alone.{CanRun}
use Rattle.commit_book.specs.Book.{BookFields}
use Rattle.commit_book.proofs.InPlace.{IsRunning}
use Rattle.commit_book.proofs.alone.run_quanta.Given as goal

abbrev pub invariant-quanta : goal.invariant-quanta
invariant-quanta g l = record {
  committed : l.committed ≡ length l.history;
  works : (b : BookFields) → CanRun l.kept l.last b l.fn.run l.fn.history
      → IsRunning l.kept l.last b l.committed l.history l.run l.fn.steps l.steps;
}

abbrev pub decreases-quanta : goal.decreases-quanta
decreases-quanta g l = l.last - l.committed
