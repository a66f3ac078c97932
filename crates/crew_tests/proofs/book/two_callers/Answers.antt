use Rattle.std.proofs.Common.{rules}
use Rattle.turn_lock.proofs.Speaking.{both_speak}
use Rattle.crew_tests.proofs.book.two_callers.Goals as goal

pub close-book-requires-clause-all : goal.close-book-requires-clause-all
close-book-requires-clause-all g c =
    both_speak c.advance_once-first.result c.advance_once-second.result c.join_seats-all.result (search rules) c.join_seats-all.ensures.last
    c.join_seats-all.ensures.own
    (c.advance_once-first.ensures.speaks 1 (search rules)) (c.advance_once-second.ensures.speaks 2 (search rules))
