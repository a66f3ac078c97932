-- How a run gets from one checkpoint to the next.
use Rattle.std.specs.Prelude.{All, IfSome, IsSomeAnd, List, Option, Some, length, slice_get, suc, take, zero, ℕ, ◌≡◌}
use Rattle.std.specs.Prelude.{◌⊎◌, ◌^◌, ◌≤◌}
use Rattle.desk_io.specs.Desk.{Appended, AppendedSome, DeskState, Elapses}
use Rattle.soup_checkpoint.specs.declared.owner.Owner.{Owner}
use Rattle.soup_checkpoint.specs.Hold.{owner_of}
use Rattle.soup_checkpoint.specs.Shelf.{IsAttached, SaysSame, ShelfState}
use Rattle.world_state.specs.StateBytes.{state_bytes}
use Rattle.soup_hold.specs.declared.stop.HoldStop.{HoldStop}
use Rattle.soup_checkpoint.specs.declared.faults.HoldFault.{HoldFault}
use Rattle.soup_checkpoint.specs.declared.faults.HoldFault.TheVariants as fault
use Rattle.desk_io.specs.Told.{IsToldAfter}
use Rattle.soup_hold.specs.Holding.{GoesOnFrom, HoldsAfter, HoldsState, HoldsWorld, IsHolding, IsSmall}
use Rattle.soup_hold.specs.Stops.{CountsStop, IfRefused}
use Rattle.soup_hold.specs.Text.{held_lines, world_at}
use Rattle.tierra_model.specs.Setups.{SetupFields}
use Rattle.tierra_model.specs.World.{World}

-- ---- one checkpoint

-- While the state of a world is appended and its line is told: the image says what the file said and nothing more is
-- told, or it holds the world.
abbrev pub IsHoldingNext : Owner → List ℕ → World → List ℕ → Option (List ℕ) → List ℕ → List ℕ → Type 0
IsHoldingNext owner file w line before image text =
    (SaysSame owner file image × (before ≡ Some text))
    ⊎ (HoldsWorld owner w image × ((i : ℕ) × IsToldAfter before (take i line) text))

-- The world was appended.
pub record HoldsNext (was : ShelfState) (w : World) (old new : DeskState) (s : ShelfState) : Type 0 where
  pub owner_is : s.owner ≡ was.owner
  pub attached : IsAttached s new
  pub holds : IfSome old.reads (λ file. IsSomeAnd new.reads (HoldsWorld was.owner w))
  pub small : IsSmall w

-- the state of the world is too large
abbrev pub IsLargeAt : World → ℕ → HoldFault → Type 0
IsLargeAt w quantum f = (f ≡ fault.TooLarge quantum (length (state_bytes w))) × (2 ^ 31 ≤ length (state_bytes w))

-- ---- all of them

-- the world after the last of the first j quanta
abbrev pub IsWorldAfter : World → List ℕ → ℕ → World → Type 0
IsWorldAfter first quanta zero w = w ≡ first
IsWorldAfter first quanta (suc j) w = (q : ℕ) × (slice_get quanta j ≡ Some q) × (w ≡ world_at first q)

-- The worlds after the first j quanta were appended since the start, and their lines were told.
pub record HasHeld (owner : Owner) (first : World) (quanta : List ℕ) (old now : DeskState) (j : ℕ) (s : ShelfState)
    (w : World) : Type 0 where
  pub owner_is : s.owner ≡ owner
  pub inside : j ≤ length quanta
  pub world_is : IsWorldAfter first quanta j w
  pub attached : IsAttached s now
  pub small : All (λ q. IsSmall (world_at first q)) (take j quanta)
  pub told : Appended old.told (held_lines (take j quanta)) now.told
  pub holds : IfSome old.reads (λ file. IsSomeAnd now.reads (HoldsAfter owner (SaysSame owner file) first quanta j))
  pub time : IfSome old.reads (λ file. Elapses old now
      (IsHolding owner (SaysSame owner file) first quanta (held_lines quanta) old.told))

-- the state of one of the quanta is the first that is too large
abbrev pub IsLargeFirst : World → List ℕ → HoldFault → Type 0
IsLargeFirst first quanta f =
    (i q : ℕ) × (slice_get quanta i ≡ Some q) × All (λ p. IsSmall (world_at first p)) (take i quanta)
    × IsLargeAt (world_at first q) q f

-- The run stopped before all of the worlds were appended and their lines told.
pub record HasStopped (owner : Owner) (first : World) (quanta : List ℕ) (old now : DeskState)
    (cause : HoldStop) : Type 0 where
  pub large : IfRefused cause (IsLargeFirst first quanta)
  pub partly : AppendedSome old.told (held_lines quanta) now.told
  pub time : IfSome old.reads (λ file. Elapses old now
      (IsHolding owner (SaysSame owner file) first quanta (held_lines quanta) old.told))
  pub counts : CountsStop cause now

-- ---- the start

-- The shelf of the setup's file is attached, and this is the world that a run goes on from.
pub record Begins (setup : SetupFields) (old new : DeskState) (s : ShelfState) (w : World) : Type 0 where
  pub owner_is : s.owner ≡ owner_of setup
  pub attached : IsAttached s new
  pub goes_on : GoesOnFrom setup old.reads w
  pub still : IfSome old.reads (λ file. IsSomeAnd new.reads (HoldsState setup goes_on.held))
