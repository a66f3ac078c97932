-- A lock, its seats and its turns, as contracts see them.
use Rattle.std.specs.Prelude.{ℕ, ◌≡◌, ◌-◌, ◌≤◌, List, ◌∷◌, replicate, sum_by, unwrap_or, Option, Some, None, IsSome}
use Rattle.std.specs.Prelude.{IsSomeAnd, slice_index_or, slice_set}
use Rattle.atomic_table.specs.Seated.{TableId}
use Rattle.turn_lock.specs.declared.view.Summary.{Summary}

-- which lock it is, and the summary of the value that it was made with
pub record LockFields : Type 0 where
  pub id : TableId
  pub opening : Summary

pub record SeatFields : Type 0 where
  pub lock : LockFields
  -- the number of its own caller
  pub caller : ℕ
  pub turns : ℕ
  -- what was committed when it last gave the value back
  pub seen : ℕ
  -- the last caller number given out, if the seat holds it
  pub last_caller : Option ℕ
  -- in the order of the callers, the own count of each that the seat speaks for
  pub own : List (Option ℕ)

-- the seat that took the turn, as it was then, and the summary of the value that it took
pub record TurnFields : Type 0 where
  pub seat : SeatFields
  pub taken : Summary

-- the own count of the caller with this number, if the seat speaks for it
abbrev pub own_of : SeatFields → ℕ → Option ℕ
own_of seat c = slice_index_or (None ∷ seat.own) c None

-- the new seat is of the same lock as the old one, with the same own caller and the same last caller number
pub record IsSameSeat (old new : SeatFields) : Type 0 where
  pub lock : new.lock ≡ old.lock
  pub caller : new.caller ≡ old.caller
  pub last : new.last_caller ≡ old.last_caller

-- the own counts of all callers that the seat speaks for, added up
abbrev pub own_total : SeatFields → ℕ
own_total seat = sum_by (λ n. unwrap_or n 0) seat.own

-- the seat speaks for each caller number that was given out
abbrev pub SpeaksForAll : SeatFields → Type 0
SpeaksForAll seat = IsSomeAnd seat.last_caller (λ last. (c : ℕ) → 1 ≤ c → c ≤ last → IsSome (own_of seat c))

-- the own counts of a seat that speaks only for the caller at this place (from 0), who committed nothing yet
abbrev pub only : ℕ → List (Option ℕ)
only place = slice_set (replicate 64 None) place (Some 0)

-- the seat that a new lock comes with
abbrev pub first_seat : LockFields → SeatFields
first_seat lock = record {
  lock = lock;
  caller = 1;
  turns = 0;
  seen = lock.opening.committed;
  last_caller = Some 1;
  own = only 0;
}

-- the seat that is split off for a caller
abbrev pub new_seat : SeatFields → ℕ → SeatFields
new_seat from caller = record {
  lock = from.lock;
  caller = caller;
  turns = 0;
  seen = from.seen;
  last_caller = None;
  own = only (caller - 1);
}
