use Rattle.std.proofs.Common.{◌≡◌, ◌+◌}
use Rattle.commit_book.specs.Book.{after_commits}
use Rattle.schedule_drill.proofs.drill.advance_all.Given as goal

abbrev pub invariant-loop-quantum : goal.invariant-loop-quantum
invariant-loop-quantum g l =
    (l.book ≡ after_commits 1 l._quantum l.fn.book) × (l.book.setup ≡ l.fn.book.setup)
    × (l.book.quanta ≡ l.fn.book.quanta) × (l.book.committed ≡ l.fn.book.committed + l._quantum)
