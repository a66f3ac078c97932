use Rattle.std.proofs.Common.{rules}
use Rattle.turn_lock.proofs.Speaking.{both_speak}
use Rattle.crew_tests.proofs.turns.take_turns.Goals as goal

pub returns-clause-all : goal.returns-clause-all
returns-clause-all g c =
    both_speak c.work-first.result c.work-second.result c.join_seats-all.result (search rules) c.join_seats-all.ensures.last c.join_seats-all.ensures.own
    (c.work-first.ensures.speaks 1 (search rules)) (c.work-second.ensures.speaks 2 (search rules))
