-- The view of a seat, and how each kind of step changes it. A place is a caller's number less one.
use Rattle.std.specs.Prelude.{◌≡◌, ℕ, suc, ◌+◌, ◌-◌, ◌^◌, List, [], ◌∷◌, ◌++◌, sum, unwrap_or, max, Option, Some, None}
use Rattle.std.specs.Prelude.{slice_index, slice_index_or, slice_set}
use Rattle.std.specs.Option.{option_or}
use Rattle.tierra_model.specs.Setups.{setup_for}
use Rattle.turn_lock.specs.declared.view.Summary.{Summary}
use Rattle.turn_lock.specs.declared.view.SeatView.{SeatView}
use Rattle.turn_lock.specs.declared.view.Stage.{Stage}
use Rattle.turn_lock.specs.declared.view.Stage.TheVariants.{Spent, Idle, Waiting, Called, Holding}
use Rattle.turn_lock.specs.Seat.{only}

-- how many tickets a caller may draw
abbrev pub most_tickets : ℕ
most_tickets = 2 ^ 40

-- the count of the caller at this place, if the view speaks for it
abbrev pub own_at : SeatView → ℕ → Option ℕ
own_at v i = slice_index_or v.own i None

abbrev pub left_of : SeatView → ℕ
left_of v = v.left

-- how many tickets a seat holds
abbrev pub ticket_count : Stage → ℕ
ticket_count Spent = 0
ticket_count Idle = 0
ticket_count (Waiting t) = 1
ticket_count (Called t read) = 1
ticket_count (Holding t read) = 1

-- the ticket that it holds, if it holds one
abbrev pub ticket_of : Stage → ℕ
ticket_of Spent = 0
ticket_of Idle = 0
ticket_of (Waiting t) = t
ticket_of (Called t read) = t
ticket_of (Holding t read) = t

-- the counts that it has read
abbrev pub counts_read : Stage → List ℕ
counts_read Spent = []
counts_read Idle = []
counts_read (Waiting t) = []
counts_read (Called t read) = read
counts_read (Holding t read) = read

abbrev pub HasTicket : Stage → ℕ → Type 0
HasTicket Spent n = ⊥
HasTicket Idle n = ⊥
HasTicket (Waiting t) n = t ≡ n
HasTicket (Called t read) n = t ≡ n
HasTicket (Holding t read) n = t ≡ n

-- it waits for this ticket
abbrev pub WaitsFor : Stage → ℕ → Type 0
WaitsFor Spent n = ⊥
WaitsFor Idle n = ⊥
WaitsFor (Waiting t) n = t ≡ n
WaitsFor (Called t read) n = ⊥
WaitsFor (Holding t read) n = ⊥

-- the seat was not joined into another
abbrev pub IsActive : Stage → Type 0
IsActive Spent = ⊥
IsActive Idle = Unit {0}
IsActive (Waiting t) = Unit {0}
IsActive (Called t read) = Unit {0}
IsActive (Holding t read) = Unit {0}

abbrev pub IsHolding : Stage → Type 0
IsHolding Spent = ⊥
IsHolding Idle = ⊥
IsHolding (Waiting t) = ⊥
IsHolding (Called t read) = ⊥
IsHolding (Holding t read) = Unit {0}

abbrev pub at_stage : SeatView → Stage → SeatView
at_stage v stage = record v { stage = stage }

-- the view of the seat that a new lock comes with
abbrev pub first_view : Summary → SeatView
first_view opening = record {
  opening = opening;
  stage = Idle;
  place = 0;
  seen = opening.committed;
  turns = 0;
  left = most_tickets;
  last_caller = Some 1;
  own = only 0;
}

-- a ticket is drawn
abbrev pub after_draw : SeatView → ℕ → SeatView
after_draw v ticket = record v { stage = Waiting ticket; left = v.left - 1 }

-- the ticket is served
abbrev pub after_call : SeatView → SeatView
after_call v = at_stage v (Called (ticket_of v.stage) [])

-- one more count is read
abbrev pub after_count : SeatView → ℕ → SeatView
after_count v count = at_stage v (Called (ticket_of v.stage) (counts_read v.stage ++ count ∷ []))

-- the slot is taken
abbrev pub after_take : SeatView → SeatView
after_take v = at_stage v (Holding (ticket_of v.stage) (counts_read v.stage))

-- the counts that were read, with that of its own caller grown
abbrev pub grown_counts : SeatView → ℕ → List ℕ
grown_counts v growth = slice_set (counts_read v.stage) v.place (slice_index (counts_read v.stage) v.place + growth)

-- the growth is published
abbrev pub after_publish : SeatView → ℕ → SeatView
after_publish v growth = record v {
  stage = Holding (ticket_of v.stage) (grown_counts v growth);
  own = slice_set v.own v.place (Some (slice_index (counts_read v.stage) v.place + growth));
  seen = v.opening.committed + sum (grown_counts v growth);
}

-- the slot is given back, and the next ticket served
abbrev pub after_pass : SeatView → SeatView
after_pass v = record v { stage = Idle; turns = v.turns + 1 }

-- the number given out last, which is the place of the caller that comes next
abbrev pub last_of : SeatView → ℕ
last_of v = unwrap_or v.last_caller 0

-- one more caller number is given out
abbrev pub after_split : SeatView → SeatView
after_split v = record v { last_caller = Some (suc (last_of v)) }

-- the view of the seat for that caller
abbrev pub new_view : SeatView → SeatView
new_view v = record {
  opening = v.opening;
  stage = Idle;
  place = last_of v;
  seen = v.seen;
  turns = 0;
  left = most_tickets;
  last_caller = None;
  own = only (last_of v);
}

-- at each place what the first list has there, or else what the second has
abbrev pub merged : List (Option ℕ) → List (Option ℕ) → List (Option ℕ)
merged [] ys = ys
merged (x ∷ xs) [] = x ∷ xs
merged (x ∷ xs) (y ∷ ys) = option_or x y ∷ merged xs ys

-- the second seat is joined into the first
abbrev pub after_join : SeatView → SeatView → SeatView
after_join v w = record v {
  seen = max v.seen w.seen;
  turns = v.turns + w.turns;
  left = v.left + w.left;
  last_caller = option_or v.last_caller w.last_caller;
  own = merged v.own w.own;
}

-- the summary of no value
pub no_summary : Summary
no_summary = record { setup = (setup_for [], 0); committed = 0; entries = [] }

-- the view of a seat that was joined into another
abbrev pub spent : SeatView
spent = record {
  opening = no_summary;
  stage = Spent;
  place = 0;
  seen = 0;
  turns = 0;
  left = 0;
  last_caller = None;
  own = [];
}
