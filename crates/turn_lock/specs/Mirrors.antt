-- How the fields of a seat or a turn agree with the seat's view.
use Rattle.std.specs.Prelude.{◌≡◌, ℕ, suc, ◌<◌, List, [], ◌∷◌, length, Option, Some, None, slice_index}
use Rattle.atomic_table.specs.Seated.{TableId}
use Rattle.turn_lock.specs.declared.view.Summary.{Summary}
use Rattle.turn_lock.specs.declared.view.SeatView.{SeatView}
use Rattle.turn_lock.specs.declared.view.Stage.TheVariants.{Idle, Holding}
use Rattle.turn_lock.specs.Summary.{HasGrown}
use Rattle.turn_lock.specs.Seat.{SeatFields}
use Rattle.turn_lock.specs.View.{most_tickets, own_at, ticket_of, counts_read, spent}
use Rattle.turn_lock.specs.Steps.{TableSeat}

abbrev pub view_of : List SeatView → SeatView
view_of [] = spent
view_of (v ∷ views) = v

-- what contracts see of the seat with this view, at the table with this id
abbrev pub seat_of : TableId → SeatView → SeatFields
seat_of id v = record {
  lock = record { id = id; opening = v.opening };
  caller = suc v.place;
  turns = v.turns;
  seen = v.seen;
  last_caller = v.last_caller;
  own = v.own;
}

-- the fields of a seat mirror its view, and it is idle
pub record MirrorsSeat (views : List SeatView) (caller turns seen : ℕ) (own : List (Option ℕ)) : Type 0 where
  pub one : views ≡ view_of views ∷ []
  pub idle : (view_of views).stage ≡ Idle
  pub caller_is : caller ≡ suc (view_of views).place
  pub turns_are : turns ≡ (view_of views).turns
  pub seen_is : seen ≡ (view_of views).seen
  pub own_is : own ≡ (view_of views).own
  pub places : length own ≡ 64
  pub speaks : (n : ℕ) × (own_at (view_of views) (view_of views).place ≡ Some n)

-- The fields of a turn mirror the view of its seat, which holds the empty slot and has read all counts. The value that
-- was taken has grown by these counts.
pub record MirrorsTurn {T : Type 0} (me : TableSeat T) (caller turns committed : ℕ) (own : List (Option ℕ))
    (taken : Summary) : Type 0 where
  pub holding : me.0.stage ≡ Holding (ticket_of me.0.stage) (counts_read me.0.stage)
  pub slot : me.1 ≡ (0, None) ∷ []
  pub caller_is : caller ≡ suc me.0.place
  pub turns_are : turns ≡ me.0.turns
  pub room : turns < most_tickets
  pub own_is : own ≡ me.0.own
  pub places : length own ≡ 64
  pub speaks : (n : ℕ) × (own_at me.0 me.0.place ≡ Some n)
  pub read_all : length (counts_read me.0.stage) ≡ 64
  pub read_own : (i n : ℕ) → own_at me.0 i ≡ Some n → slice_index (counts_read me.0.stage) i ≡ n
  pub committed_is : committed ≡ taken.committed
  pub grown : HasGrown me.0.opening (counts_read me.0.stage) taken
