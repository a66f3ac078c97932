use Rattle.std.proofs.Common.{◌≡◌, ℕ, List, length}
use Rattle.turn_lock.specs.declared.view.Stage.TheVariants.{Called}
use Rattle.turn_lock.specs.View.{at_stage}
use Rattle.turn_lock.proofs.lock.TurnLock.read_counts.Given as goal

abbrev pub invariant-loop-i : goal.invariant-loop-i
invariant-loop-i g l = (l.table_seat.table_id ≡ l.initial.table_seat.table_id) × (l.table_seat.id ≡ l.initial.table_seat.id)
    × ((read : List ℕ) × (length read ≡ l.i) × (l.table_seat.me ≡ (at_stage l.initial.table_seat.me.0 (Called l.ticket read), l.initial.table_seat.me.1)))
