use Rattle.std.proofs.Common.{◌≡◌, ◌≤◌, drop}
use Rattle.schedule_drill.specs.AtBook.{answers}
use Rattle.schedule_drill.specs.Drill.{after_moves, first_drill}
use Rattle.schedule_drill.proofs.drill.counted_play.Given as goal

abbrev pub invariant-loop-next : goal.invariant-loop-next
invariant-loop-next g l =
    (after_moves (drop l.next-index l.moves) l.drill ≡ after_moves l.moves (first_drill l.fn.setup l.fn.quanta))
    × (answers l.drill ≤ l.next-index) × (l.drill.book.setup ≡ l.fn.setup) × (l.drill.book.quanta ≡ l.fn.quanta)
