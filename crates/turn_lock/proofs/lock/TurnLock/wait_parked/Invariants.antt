use Rattle.std.proofs.Common.{◌≡◌}
use Rattle.turn_lock.proofs.lock.TurnLock.wait_parked.Given as goal

abbrev pub invariant-loop : goal.invariant-loop
invariant-loop g l = (l.table_seat.table_id ≡ l.initial.table_seat.table_id) × (l.table_seat.id ≡ l.initial.table_seat.id)
    × (l.table_seat.me ≡ l.initial.table_seat.me)
