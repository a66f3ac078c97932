-- The rule of the lock, which holds between any two steps on its table.
use Rattle.std.specs.Prelude.{◌≡◌, ℕ, ◌+◌, ◌*◌, ◌<◌, ◌≤◌, List, [], ◌∷◌, length, take, sum, sum_by, count_by}
use Rattle.std.specs.Prelude.{slice_index, Option, Some, is_some}
use mathlib.Core.Option.{some}
use lib.ListN.{get_elem?}
use Rattle.atomic_table.specs.Table.{State}
use Rattle.turn_lock.specs.declared.view.Summary.{Summary}
use Rattle.turn_lock.specs.declared.view.SeatView.{SeatView}
use Rattle.turn_lock.specs.declared.view.Stage.{Stage}
use Rattle.turn_lock.specs.declared.view.Stage.TheVariants.{Spent, Idle, Waiting, Called, Holding}
use Rattle.turn_lock.specs.Summary.{HasGrown}
use Rattle.turn_lock.specs.View.{most_tickets, own_at, left_of, ticket_count, HasTicket, IsActive, IsHolding}

-- What a seat's stage says of the words: a ticket that it holds is one of those from serving to ticket - 1, and the
-- seat is the holder of that ticket; the seat is called, has read counts or holds the slot only if its ticket is the
-- one served, and these counts are the present ones.
module _ (ticket serving : ℕ) (counts : List ℕ) (holder : ℕ → ℕ) (seat : ℕ) where
  abbrev pub StageFits : Stage → Type 0
  StageFits Spent = Unit {0}
  StageFits Idle = Unit {0}
  StageFits (Waiting t) = (serving ≤ t) × (t < ticket) × (holder t ≡ seat)
  StageFits (Called t read) = (t ≡ serving) × (t < ticket) × (holder t ≡ seat) × (read ≡ take (length read) counts)
  StageFits (Holding t read) = (t ≡ serving) × (t < ticket) × (holder t ≡ seat) × (read ≡ counts)

-- what the rule says of a seat that was not joined into another
pub record SeatFits (start : Summary) (ticket serving last : ℕ) (counts : List ℕ) (holder owner : ℕ → ℕ) (seat : ℕ)
    (v : SeatView) : Type 0 where
  pub opening : v.opening ≡ start
  pub stage : StageFits ticket serving counts holder seat v.stage
  -- a caller that it speaks for has a number that was given out and no other seat, and its own count is the present one
  pub places : length v.own ≡ 64
  pub own : (i n : ℕ) → own_at v i ≡ Some n → (i < last) × (owner i ≡ seat) × (slice_index counts i ≡ n)
  pub speaks : (n : ℕ) × (own_at v v.place ≡ Some n)
  pub seen : v.seen ≤ start.committed + sum counts
  -- its callers may draw this many tickets, less those that are drawn
  pub left : v.left + v.turns + ticket_count v.stage ≡ most_tickets * count_by is_some v.own
  -- it holds the last number given out if and only if it speaks for caller 1
  pub holds_last : (n : ℕ) → own_at v 0 ≡ Some n → v.last_caller ≡ Some last
  pub last_held : (k : ℕ) → v.last_caller ≡ Some k → (k ≡ last) × ((n : ℕ) × (own_at v 0 ≡ Some n))

-- the seat speaks for the caller at place i
abbrev pub Speaks : List SeatView → ℕ → ℕ → Type 0
Speaks views seat i = (v : SeatView) × (get_elem? views seat ≡ some v) × IsActive v.stage
    × ((n : ℕ) × (own_at v i ≡ Some n))

abbrev pub NoneHolds : List SeatView → Type 0
NoneHolds views = (seat : ℕ) (v : SeatView) → get_elem? views seat ≡ some v → ¬ IsHolding v.stage

-- the rule, where `summary` reads the value, and `opening` is the summary of the one that the lock was made with
pub record KeepsRule {T : Type 0} (summary : T → Summary) (opening : Summary)
    (s : State (Option T) SeatView) : Type 0 where
  pub ticket : ℕ
  pub serving : ℕ
  pub counts : List ℕ
  -- the last caller number given out
  pub last : ℕ
  -- which seat holds a ticket, and which speaks for the caller at a place
  pub holder : ℕ → ℕ
  pub owner : ℕ → ℕ
  pub words : s.words ≡ ticket ∷ serving ∷ counts
  pub places : length counts ≡ 64
  -- each ticket from serving to ticket - 1 is held
  pub order : serving ≤ ticket
  pub queue : (t : ℕ) → serving ≤ t → t < ticket
      → (v : SeatView) × (get_elem? s.views (holder t) ≡ some v) × HasTicket v.stage t
  -- each number given out is spoken for, and the count of any other is 0
  pub given : (1 ≤ last) × (last ≤ 64)
  pub spoken : (i : ℕ) → i < last → Speaks s.views (owner i) i
  pub unused : (i : ℕ) → last ≤ i → slice_index counts i ≡ 0
  -- the tickets drawn, and those that may still be drawn, are all that the callers may draw
  pub total : ticket + sum_by left_of s.views ≡ most_tickets * last
  pub each_seat : (seat : ℕ) (v : SeatView) → get_elem? s.views seat ≡ some v → IsActive v.stage
      → SeatFits opening ticket serving last counts holder owner seat v
  -- if no seat holds the slot, the slot has a value, which has grown by the counts
  pub at_home : NoneHolds s.views → (x : T) × (s.homes ≡ some (Some x) ∷ []) × HasGrown opening counts (summary x)
