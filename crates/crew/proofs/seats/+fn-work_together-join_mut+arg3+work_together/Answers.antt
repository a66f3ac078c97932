use Rattle.std.proofs.Common.{rules, refl, sym, subst, ◌≡◌, List, Option, Some}
use Rattle.std.specs.Prelude.{All, IfSome}
use Rattle.turn_lock.specs.Seat.{SeatFields}
use Rattle.crew.specs.Works.{HasJoined, HasWorked, IsUnused, worker_turns}
use Rattle.crew.proofs.Speaking.{joined_more, split_last, that_one}
use Rattle.crew.proofs.seats.+fn-work_together-join_mut+arg3+work_together.Goals as goal

pub join_mut-other-requires-after_bounds : goal.join_mut-other-requires-after_bounds
join_mut-other-requires-after_bounds g t c κs within =
    let at = c.args.crew.now.lock.now in
    let xs = c.pop.new.self.items in
    let other = c.in-Some-pop.other in
    let first : IsUnused at c.in-Some.seat = that_one (IsUnused at) c.args.first.now c.in-Some.seat c.requires.first (search rules) in
    let parts = split_last (λ k s. IsUnused at s) xs other (subst (All (IsUnused at)) c.in-Some-pop.ensures.items c.requires.others) in (
      ((search rules, search rules), (other, refl, parts.1)),
      (
        search rules,
        (
          (λ a m. m),
          (
            (λ a m. m),
            (
              (λ a m. m),
              (
                (λ a m. m),
                (
                  ((search rules, search rules), (c.in-Some.seat, refl, first), parts.0, c.requires.ready),
                  (search rules, search rules),
                ),
              ),
            ),
          ),
        ),
      ),
    )

pub returns-clause-seat : goal.returns-clause-seat
returns-clause-seat g t c =
    let at = c.args.crew.now.lock.now in
    let xs = c.pop.new.self.items in
    let other = c.in-Some-pop.other in
    let parts = split_last (λ k s. IsUnused at s) xs other (subst (All (IsUnused at)) c.in-Some-pop.ensures.items c.requires.others) in
    let led : HasJoined xs c.in-Some.seat c.join_mut-other.result.1.seat = search rules in
    let worked : HasWorked worker_turns other c.join_mut-other.result.0 = search rules in
    let all = joined_more at xs other c.join_mut-other.result.0 c.in-Some.seat c.join_mut-other.result.1.seat c.join_seats.result parts.1 worked led
    c.join_seats.ensures.lock c.join_seats.ensures.turns c.join_seats.ensures.last c.join_seats.ensures.own in
    let same = subst (λ (ys : List SeatFields). HasJoined ys c.in-Some.seat c.join_seats.result) (sym {A = List SeatFields} c.in-Some-pop.ensures.items) all in
    let is : c.args.first.now ≡ Some c.in-Some.seat = search rules in
    subst (λ (o : Option SeatFields). IfSome o (λ s. HasJoined c.args.others.now.items s c.join_seats.result)) (sym is) same
