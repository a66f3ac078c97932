use Rattle.std.proofs.Common.{subst, sym}
use Rattle.std.specs.Prelude.{IsSome}
use Rattle.turn_lock.specs.Seat.{own_of}
use Rattle.turn_lock.proofs.Speaking.{still_speaks}
use Rattle.crew_tests.proofs.book.advance_once.Goals as goal

pub returns-clause-speaks : goal.returns-clause-speaks
returns-clause-speaks g c k speaks =
    let gave = c.give-seat.ensures in
    still_speaks c.take-turn.result.0.seat c.give-seat.result _ k _ gave.own gave.others
    (subst (λ s. IsSome (own_of s k)) (sym c.take-turn.ensures.seat) speaks)
