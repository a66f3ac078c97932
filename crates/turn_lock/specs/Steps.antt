-- What each kind of step tells the seat that makes it, given the step, the seat before, the number found and the seat
-- after.
use Rattle.std.specs.Prelude.{◌≡◌, ℕ, ◌^◌, ◌≤◌, ◌∷◌, slice_index, Option, Some}
use Rattle.atomic_table.specs.Table.{Me, Step, rest}
use Rattle.turn_lock.specs.declared.view.Summary.{Summary}
use Rattle.turn_lock.specs.declared.view.SeatView.{SeatView}
use Rattle.turn_lock.specs.Summary.{HasGrown}
use Rattle.turn_lock.specs.View.{own_at, counts_read, WaitsFor, after_draw, after_call, after_count, after_take}
use Rattle.turn_lock.specs.View.{after_publish, after_pass}

-- a seat at the table: its view, and the slots that are out with it
abbrev pub TableSeat : Type 0 → Type 0
TableSeat T = Me (Option T) SeatView

module _ {T : Type 0} where
  abbrev pub DrawsTicket : Step (Option T) → TableSeat T → ℕ → TableSeat T → Type 0
  DrawsTicket step a found b = b ≡ (after_draw a.0 found, a.1)

  -- the seat is called if the number found is its ticket; and no seat ever has more turns than 64 callers may take
  pub record LoadsServing (step : Step (Option T)) (a : TableSeat T) (found : ℕ) (b : TableSeat T) : Type 0 where
    pub called : WaitsFor a.0.stage found → b ≡ (after_call a.0, a.1)
    pub same : ¬ WaitsFor a.0.stage found → b ≡ a
    pub turns : a.0.turns ≤ 2 ^ 46

  abbrev pub LoadsCount : Step (Option T) → TableSeat T → ℕ → TableSeat T → Type 0
  LoadsCount step a found b = b ≡ (after_count a.0 found, a.1)

  -- the value has grown by the counts that were read, which agree with the seat's own, and no less was committed to it
  -- than the seat has seen
  pub record SlotTaken (summary : T → Summary) (a b : TableSeat T) (x : T) : Type 0 where
    pub seat : b ≡ (after_take a.0, (0, Some x) ∷ a.1)
    pub value : HasGrown a.0.opening (counts_read a.0.stage) (summary x)
    pub own : (i n : ℕ) → own_at a.0 i ≡ Some n → slice_index (counts_read a.0.stage) i ≡ n
    pub seen : a.0.seen ≤ (summary x).committed

  abbrev pub TakesSlot : (T → Summary) → Step (Option T) → TableSeat T → ℕ → TableSeat T → Type 0
  TakesSlot summary step a found b = (x : T) × SlotTaken summary a b x

  abbrev pub Publishes : Step (Option T) → TableSeat T → ℕ → TableSeat T → Type 0
  Publishes step a found b = b ≡ (after_publish a.0 step.first, a.1)

  abbrev pub PassesOn : Step (Option T) → TableSeat T → ℕ → TableSeat T → Type 0
  PassesOn step a found b = b ≡ (after_pass a.0, rest a.1)
