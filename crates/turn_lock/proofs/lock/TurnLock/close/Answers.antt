use Rattle.std.proofs.Common.{◌+◌, sym, ap, ◌∙◌}
use Rattle.turn_lock.specs.Summary.{summary_of, entries_by}
use Rattle.turn_lock.specs.Seat.{own_total}
use Rattle.turn_lock.specs.Mirrors.{view_of, seat_of}
use Rattle.turn_lock.proofs.Closing.{closed, closed_value}
use Rattle.turn_lock.proofs.lock.TurnLock.close.Goals as goal

pub unreachable-requires : goal.unreachable-requires
unreachable-requires g c =
    let now = ap view_of c.into_seat-table_seat.ensures.2 in
    let end = closed _ _ _ c.seat.inside.badge.table_id _ c.args.seat _ _ c.take-slot.result (ap (λ v. v.stage) (sym now) ∙ c.seat.invariant.idle)
    (ap (seat_of c.seat.inside.badge.table_id) (sym now) ∙ c.seat.view_is) c.requires.all
    c.close_with-closed.ensures.values.2 c.take-slot.ensures.value in
    c.in_default.not-Some end.0 end.1

pub returns : goal.returns
returns g c =
    let now = ap view_of c.into_seat-table_seat.ensures.2 in
    let end = closed _ _ _ c.seat.inside.badge.table_id _ c.args.seat _ _ c.take-slot.result (ap (λ v. v.stage) (sym now) ∙ c.seat.invariant.idle)
    (ap (seat_of c.seat.inside.badge.table_id) (sym now) ∙ c.seat.view_is) c.requires.all
    c.close_with-closed.ensures.values.2 c.take-slot.ensures.value in
    let summary = summary_of g.T.Kept.setup g.T.Kept.committed g.T.Kept.entries in
    let is = closed_value summary (summary c.self.inside.table.shared.key.value) _ _ _ _ end.1 c.in-Some.is end.2 in
    let lock = c.requires.lock in record {
      setup = is.setup ∙ ap (λ l. l.opening.setup) lock;
      committed = is.committed ∙ ap (λ l. l.opening.committed + own_total c.args.seat) lock;
      seen = is.seen;
      own = λ k n e. is.own k n e ∙ ap (λ l. entries_by l.opening.entries k + n) lock;
      others = λ k least most e. is.others k least most e ∙ ap (λ l. entries_by l.opening.entries k) lock;
    }
