-- What the file of a run that keeps checkpoints holds, what is told, and why a file is refused.
use Rattle.std.specs.Prelude.{All, IfSome, List, None, Option, Some, Err, Ok, length, slice_get, suc, take, zero, ℕ}
use Rattle.std.specs.Prelude.{◌<◌, ◌^◌, ◌≡◌, ◌≤◌, ◌⊎◌}
use Rattle.desk_io.specs.Desk.{DeskState, Elapses, WithText}
use Rattle.desk_io.specs.Told.{LinesFollow}
use Rattle.soup_checkpoint.specs.declared.faults.HoldFault.{HoldFault}
use Rattle.soup_checkpoint.specs.declared.faults.HoldFault.TheVariants as fault
use Rattle.soup_checkpoint.specs.declared.owner.Owner.{Owner}
use Rattle.soup_checkpoint.specs.Hold.{HoldSays, owner_of}
use Rattle.soup_checkpoint.specs.Shelf.{Holds, SaysAsBefore}
use Rattle.soup_hold.specs.Text.{held_lines, held_quanta, hold_text, world_at}
use Rattle.tierra_model.specs.Serial.{start}
use Rattle.tierra_model.specs.Setups.{SetupFields}
use Rattle.tierra_model.specs.World.{World}
use Rattle.world_state.specs.Restoring.{AreBytesOf}
use Rattle.world_state.specs.StateBytes.{state_bytes}

-- ---- where a run begins

-- the image holds this state, or none
abbrev pub HoldsState : SetupFields → Option (List ℕ) → List ℕ → Type 0
HoldsState setup held image = HoldSays image setup (Ok held)

-- the world whose state is held, or the world at the start if none is
abbrev pub IsFirst : SetupFields → Option (List ℕ) → World → Type 0
IsFirst setup None first = first ≡ start setup
IsFirst setup (Some state) first = AreBytesOf setup.settings state first

-- The world that a run goes on from, given what the file holds.
pub record GoesOnFrom (setup : SetupFields) (file : Option (List ℕ)) (first : World) : Type 0 where
  pub held : Option (List ℕ)
  pub read : IfSome file (HoldsState setup held)
  pub is_first : IsFirst setup held first

-- ---- what is told

-- The text of a run to quantum n that goes on from what the file holds.
pub record IsHoldText (setup : SetupFields) (n every : ℕ) (file : Option (List ℕ)) (text : List ℕ) : Type 0 where
  pub first : World
  pub goes_on : GoesOnFrom setup file first
  pub not_beyond : first.quanta ≤ n
  pub text_is : text ≡ hold_text first n every

-- P holds of a text of the run
abbrev pub ForHoldText : SetupFields → ℕ → ℕ → Option (List ℕ) → (List ℕ → Type 0) → Type 0
ForHoldText setup n every file P = (text : List ℕ) × IsHoldText setup n every file text × P text

-- ---- why a file is refused

-- the state is short enough for a frame
abbrev pub IsSmall : World → Type 0
IsSmall w = length (state_bytes w) < 2 ^ 31

-- The world that is held has run past quantum n.
pub record IsBeyond (setup : SetupFields) (n : ℕ) (file : Option (List ℕ)) (held : ℕ) : Type 0 where
  pub first : World
  pub goes_on : GoesOnFrom setup file first
  pub at : first.quanta ≡ held
  pub beyond : n < held

-- The state of this quantum is the first of those to be appended that is too large.
pub record IsTooLarge (setup : SetupFields) (n every : ℕ) (file : Option (List ℕ)) (quantum bytes : ℕ) : Type 0 where
  pub first : World
  pub goes_on : GoesOnFrom setup file first
  pub place : ℕ
  pub there : slice_get (held_quanta every first.quanta n) place ≡ Some quantum
  pub before : All (λ q. IsSmall (world_at first q)) (take place (held_quanta every first.quanta n))
  pub bytes_are : length (state_bytes (world_at first quantum)) ≡ bytes
  pub large : 2 ^ 31 ≤ bytes

-- the reasons to refuse a file to a run to quantum n
abbrev pub RefusesHold : SetupFields → ℕ → ℕ → Option (List ℕ) → HoldFault → Type 0
RefusesHold setup n every file (fault.Beyond held) = IsBeyond setup n file held
RefusesHold setup n every file (fault.TooLarge quantum bytes) = IsTooLarge setup n every file quantum bytes
RefusesHold setup n every file f = IfSome file (λ image. HoldSays image setup (Err f))

-- a refusal that comes before any state is appended
abbrev pub IsEarly : HoldFault → Type 0
IsEarly (fault.TooLarge quantum bytes) = ⊥
IsEarly f = Unit {0}

-- The file is known, and no state that a run to quantum n appends is too large.
pub record CanHold (setup : SetupFields) (n every : ℕ) (file : Option (List ℕ)) : Type 0 where
  pub image : List ℕ
  pub told : file ≡ Some image
  pub small : (first : World) → GoesOnFrom setup file first
      → All (λ q. IsSmall (world_at first q)) (held_quanta every first.quanta n)

-- ---- the moments of a run

-- the image holds the state of the world
abbrev pub HoldsWorld : Owner → World → List ℕ → Type 0
HoldsWorld owner w image = Holds owner (Some (state_bytes w)) image × AreBytesOf owner.settings (state_bytes w) w

-- the image holds the world after the last of the first j quanta; if j is 0, it is as at the start
abbrev pub HoldsAfter : Owner → (List ℕ → Type 0) → World → List ℕ → ℕ → List ℕ → Type 0
HoldsAfter owner AsAtStart first quanta zero image = AsAtStart image
HoldsAfter owner AsAtStart first quanta (suc j) image =
    (q : ℕ) × (slice_get quanta j ≡ Some q) × HoldsWorld owner (world_at first q) image

-- At a moment of a run that tells the whole text: the image holds the world after the last of the first quanta, and
-- their lines follow.
abbrev pub IsHolding : Owner → (List ℕ → Type 0) → World → List ℕ → List ℕ → Option (List ℕ) → List ℕ → List ℕ → Type 0
IsHolding owner AsAtStart first quanta =
    LinesFollow (HoldsAfter owner AsAtStart first quanta) (length quanta) (λ j. held_lines (take j quanta))

-- The image says what the file might have said at the start and nothing was told since, or the run is not over and
-- IsHolding holds.
abbrev pub IsHoldingOn : SetupFields → Option (List ℕ) → World → ℕ → ℕ → (List ℕ → Type 0) → List ℕ → Option (List ℕ)
    → List ℕ → List ℕ → Type 0
IsHoldingOn setup held first n every may_leave file before image text =
    WithText before (SaysAsBefore (owner_of setup) may_leave file) image text
    ⊎ ((first.quanta ≤ n) × IsHolding (owner_of setup) (HoldsState setup held) first (held_quanta every first.quanta n)
    (hold_text first n every) before image text)

-- Each moment since the first state is one of these two, where the file's contents were known then, and it held this
-- state or none.
abbrev pub HoldsOn : SetupFields → ℕ → ℕ → DeskState → DeskState → Type 0
HoldsOn setup n every old new = IfSome old.reads (λ file. (held : Option (List ℕ)) (first : World)
    → HoldsState setup held file → IsFirst setup held first
    → Elapses old new (IsHoldingOn setup held first n every old.may_leave file old.told))

-- What a read gives and whatever a crash may leave is one file, which holds the world after the last of the quanta; if
-- there are none, it is as at the start.
pub record IsLast (owner : Owner) (AsAtStart : List ℕ → Type 0) (first : World) (quanta : List ℕ)
    (now : DeskState) : Type 0 where
  pub file : List ℕ
  pub told : now.reads ≡ Some file
  pub only : (image : List ℕ) → now.may_leave image → image ≡ file
  pub holds : HoldsAfter owner AsAtStart first quanta (length quanta) file

-- the file of a run that is done holds its last checkpoint, or what it held before if the run came to none
pub record EndsWithLast (setup : SetupFields) (n every : ℕ) (file : List ℕ) (now : DeskState) : Type 0 where
  pub first : World
  pub goes_on : GoesOnFrom setup (Some file) first
  pub last : IsLast (owner_of setup) (HoldsState setup goes_on.held) first (held_quanta every first.quanta n) now
