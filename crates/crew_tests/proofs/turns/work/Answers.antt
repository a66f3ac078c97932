use Rattle.std.proofs.Common.{arith, ap, subst, sym, ◌∙◌}
use Rattle.std.specs.Prelude.{IsSome}
use Rattle.turn_lock.specs.Seat.{own_of}
use Rattle.turn_lock.proofs.Speaking.{still_speaks}
use Rattle.crew_tests.proofs.turns.work.Goals as goal

pub loop-preserved : goal.loop-preserved
loop-preserved g c =
    let inv = c.loop.invariant in
    let same = c.take-turn.ensures.seat in
    let gave = c.give-seat.ensures in
    let turns = gave.turns in
    let before = inv.1 in
    let taken = ap (λ s. s.turns) same in (
      gave.seat.lock ∙ (ap (λ s. s.lock) same ∙ inv.0),
      omega arith,
      gave.seat.last ∙ (ap (λ s. s.last_caller) same ∙ inv.2),
      λ k speaks. still_speaks c.take-turn.result.0.seat c.give-seat.result _ k _ gave.own gave.others
          (subst (λ s. IsSome (own_of s k)) (sym same) (inv.3 k speaks)),
    )
