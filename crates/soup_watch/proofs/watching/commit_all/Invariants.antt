use Rattle.std.proofs.Common.{◌≡◌, ◌≤◌}
use Rattle.commit_book.specs.Giving.{MayGive}
use Rattle.soup_watch.proofs.watching.commit_all.Given as goal

abbrev pub invariant-loop : goal.invariant-loop
invariant-loop l = MayGive l.fn.by l.fn.book l.book × (l.book.quanta ≡ l.fn.book.quanta) × (l.counter ≤ l.book.committed)
