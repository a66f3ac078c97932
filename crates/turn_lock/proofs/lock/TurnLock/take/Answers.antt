use Rattle.std.proofs.Common.{rules, arith, ◌+◌, length, ◌∷◌, Some, ap, sym, ◌∙◌}
use Rattle.atomic_table.specs.Table.{rest}
use Rattle.turn_lock.specs.Summary.{entries_by}
use Rattle.turn_lock.specs.Mirrors.{view_of}
use Rattle.turn_lock.proofs.Drawing.{draws}
use Rattle.turn_lock.proofs.Taking.{takes_slot}
use Rattle.turn_lock.proofs.Turning.{idle_seat, called_seat, slot_first, same_value, taken_as, turn_seat, mirrors_turn}
use Rattle.turn_lock.proofs.lock.TurnLock.take.Goals as goal

pub fetch_add-ticket-requires : goal.fetch_add-ticket-requires
fetch_add-ticket-requires g c =
    let start = idle_seat c.seat.inside.badge.views c.into_seat-table_seat.result.me c.into_seat-table_seat.ensures.2 c.into_seat-table_seat.ensures.3 in (
      search rules,
      search rules,
      draws _ _ _ _ _ (ap (λ z. z.0.stage) start ∙ c.seat.invariant.idle) (let a = ap (λ z. z.0.turns) start in let b =
          ap (λ s. s.turns) c.seat.view_is in let room = c.requires.room in omega arith),
    )

pub load-requires : goal.load-requires
load-requires g c =
    let start = idle_seat c.seat.inside.badge.views c.into_seat-table_seat.result.me c.into_seat-table_seat.ensures.2 c.into_seat-table_seat.ensures.3 in
    let read = c.read_counts.ensures.counted in
    let now = called_seat _ _ _ _ _ _ read.0 start c.fetch_add-ticket.ensures.2 c.wait.ensures.called read.2 in
    (search rules, search rules, takes_slot _ _ _ _ _ _ _ (ap (λ z. z.0.stage) now) read.1)

pub exchange-slot-requires : goal.exchange-slot-requires
exchange-slot-requires g c = let took = c.load.ensures.2 in (search rules, (Some took.0, slot_first _ _ _ (ap (λ z. z.1) took.1.seat)))

pub invariant_of-turn : goal.invariant_of-turn
invariant_of-turn g c =
    let start = idle_seat c.seat.inside.badge.views c.into_seat-table_seat.result.me c.into_seat-table_seat.ensures.2 c.into_seat-table_seat.ensures.3 in
    let read = c.read_counts.ensures.counted in
    let now = called_seat _ _ _ _ _ _ read.0 start c.fetch_add-ticket.ensures.2 c.wait.ensures.called read.2 in
    let took = c.load.ensures.2 in
    let same = same_value _ _ _ took.0 c.in-Some.value (ap (λ z. z.1) took.1.seat)
    (c.exchange-slot.ensures.2 ∙ ap (λ o. (0, o) ∷ rest c.load.new.seat.me.1) c.in-Some.is) in
    let turns = c.seat.invariant.turns_are in
    let few = ap (λ s. s.turns) c.seat.view_is in
    let room = c.requires.room in
    mirrors_turn _ c.seat.inside.badge.views c.seat.inside.caller c.seat.inside.turns c.seat.inside.seen _ c.seat.inside.own.value _ read.0 _ _ _ _ _
    c.seat.invariant (omega arith) read.1 now took.1
    (same ∙ sym c.of.ensures) c.exchange-slot.ensures.3 (c.committed.ensures ∙ ap g.T.Kept.committed (sym c.of.ensures))

pub returns : goal.returns
returns g c =
    let start = idle_seat c.seat.inside.badge.views c.into_seat-table_seat.result.me c.into_seat-table_seat.ensures.2 c.into_seat-table_seat.ensures.3 in
    let read = c.read_counts.ensures.counted in
    let now = called_seat _ _ _ _ _ _ read.0 start c.fetch_add-ticket.ensures.2 c.wait.ensures.called read.2 in
    let took = c.load.ensures.2 in
    let own_is = ap length c.seat.invariant.own_is in
    let same = same_value _ _ _ took.0 c.in-Some.value (ap (λ z. z.1) took.1.seat)
    (c.exchange-slot.ensures.2 ∙ ap (λ o. (0, o) ∷ rest c.load.new.seat.me.1) c.in-Some.is) in
    let taken = taken_as _ c.seat.inside.badge.table_id (view_of c.seat.inside.badge.views) c.args.seat _ read.0 _ _ _ c.in-Some.value c.seat.view_is same now
    took.1 (sym own_is ∙ c.seat.invariant.places) in
    let lock = c.requires.lock in record {
      seat = turn_seat _ c.seat.inside.badge.table_id _ (view_of c.seat.inside.badge.views) _ _ read.0 _ _ _ _ c.seat.view_is (search rules) now took.1
          c.exchange-slot.ensures.3;
      taken = search rules;
      setup = taken.setup ∙ ap (λ l. l.opening.setup) lock;
      seen = taken.seen;
      own = λ k n e. taken.own k n e ∙ ap (λ l. entries_by l.opening.entries k + n) lock;
    }
