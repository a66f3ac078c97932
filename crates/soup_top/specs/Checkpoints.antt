-- What the file of a run with checkpoints holds at each moment.
use Rattle.std.specs.Prelude.{All, IfSome, IsSomeAnd, List, [], None, Option, Some, length, slice_get, take}
use Rattle.std.specs.Prelude.{unwrap_or, ℕ}
use Rattle.std.specs.Prelude.{◌∷◌, ◌++◌, ◌≡◌, ◌⊎◌, ◌≤◌}
use Rattle.desk_io.specs.Desk.{Appended, DeskState, Elapses, WithText}
use Rattle.soup_checkpoint.specs.Hold.{EndsWith, IsOwned, owner_of}
use Rattle.soup_checkpoint.specs.Shelf.{SaysAsBefore}
use Rattle.desk_io.specs.Told.{BeginsWithText, IsToldAfter}
use Rattle.soup_hold.specs.Holding.{HoldsState}
use Rattle.soup_hold.specs.Text.{held_lines, held_quanta}
use Rattle.soup_top.specs.Sources.{run_report}
use Rattle.tierra_model.specs.declared.limits.TheConstants.{MOST_QUANTA}
use Rattle.tierra_model.specs.Serial.{serial}
use Rattle.tierra_model.specs.Setups.{SetupFields}
use Rattle.world_state.specs.StateBytes.{state_bytes}

-- the image holds the serial run's world after this quantum, or none: its header is the setup's, and its last frame has
-- the bytes of that world
abbrev pub HoldsSerial : SetupFields → Option ℕ → List ℕ → Type 0
HoldsSerial setup None image = HoldsState setup None image
HoldsSerial setup (Some m) image =
    IsOwned image (owner_of setup).digest × EndsWith image (state_bytes (serial setup m)) × (m ≤ MOST_QUANTA)

-- what a read gives, and whatever a crash may leave, holds the serial run's world after this quantum, or none
pub record DiskHoldsSerial (setup : SetupFields) (held : Option ℕ) (reads : Option (List ℕ))
    (may_leave : List ℕ → Type 0) : Type 0 where
  pub file : List ℕ
  pub told : reads ≡ Some file
  pub read : HoldsSerial setup held file
  pub left : (image : List ℕ) → may_leave image → HoldsSerial setup held image

-- where nothing is held, a run goes on from quantum 0
abbrev pub quantum_of : Option ℕ → ℕ
quantum_of start = unwrap_or start 0

-- the quanta of the checkpoints of a run to quantum n that goes on from there
abbrev pub checkpoints : ℕ → ℕ → Option ℕ → List ℕ
checkpoints n every start = held_quanta every (quantum_of start) n

-- the last of these quanta, or where the run began if there is none
abbrev pub last_held : Option ℕ → List ℕ → Option ℕ
last_held start [] = start
last_held start (q ∷ quanta) = last_held (Some q) quanta

-- what a run that goes on from there tells
abbrev pub resumed_text : SetupFields → ℕ → ℕ → Option ℕ → List ℕ
resumed_text setup n every start = held_lines (checkpoints n every start) ++ run_report setup n

-- each quantum whose whole line was told is at most the one that is held
abbrev pub HasToldHeld : Option ℕ → List ℕ → List ℕ → Type 0
HasToldHeld held quanta told = (j : ℕ) (rest : List ℕ) → j ≤ length quanta → told ≡ held_lines (take j quanta) ++ rest
    → All (λ q. IsSomeAnd held (λ k. q ≤ k)) (take j quanta)

-- the image holds the world after the quantum at this place, and the lines before its own were told
pub record IsHeldAt (quanta : List ℕ) (piece : List ℕ) (k : ℕ) : Type 0 where
  pub place : ℕ
  pub there : slice_get quanta place ≡ Some k
  pub kept_up : BeginsWithText (held_lines (take place quanta)) piece

-- At a moment of a run to quantum n, where `before` was told when it began: the image holds what the file held at the
-- start, or the serial run's world after a checkpoint since. No checkpoint whose line was told is later. Of the lines
-- up to the held checkpoint, at most its own was not told yet. What was told begins the run's text.
pub record IsTrueHold (setup : SetupFields) (n every : ℕ) (start : Option ℕ) (before : Option (List ℕ))
    (image text : List ℕ) : Type 0 where
  pub held : Option ℕ
  pub holds : HoldsSerial setup held image
  pub piece : List ℕ
  pub which : (held ≡ start) ⊎ IsSomeAnd held (IsHeldAt (checkpoints n every start) piece)
  pub text_is : IsToldAfter before piece text
  pub told : HasToldHeld held (checkpoints n every start) piece
  pub part : BeginsWithText piece (resumed_text setup n every start)

-- the image says what the file might have said at the start and nothing was told since, or IsTrueHold holds
abbrev pub IsHeldOn : SetupFields → ℕ → ℕ → Option ℕ → (List ℕ → Type 0) → List ℕ → Option (List ℕ) → List ℕ → List ℕ
    → Type 0
IsHeldOn setup n every start may_leave file before image text =
    WithText before (SaysAsBefore (owner_of setup) may_leave file) image text
    ⊎ IsTrueHold setup n every start before image text

-- P holds of each quantum such that the file holds the serial run's world after it, or of none if the file holds none,
-- where the desk tells its file
abbrev pub IfHoldsSerial : SetupFields → DeskState → (List ℕ → Option ℕ → Type 0) → Type 0
IfHoldsSerial setup d P = IfSome d.reads (λ file. (start : Option ℕ) → HoldsSerial setup start file → P file start)

-- A run that goes on from a world of the serial run has told a line for each later checkpoint, and the report.
abbrev pub Resumes : SetupFields → ℕ → ℕ → DeskState → DeskState → Type 0
Resumes setup n every old new =
    IfHoldsSerial setup old (λ file start. Appended old.told (resumed_text setup n every start) new.told)

-- .. and the disk holds the last of them, or what the file held if there was none
abbrev pub LeavesLast : SetupFields → ℕ → ℕ → DeskState → DeskState → Type 0
LeavesLast setup n every old new = IfHoldsSerial setup old (λ file start.
    DiskHoldsSerial setup (last_held start (checkpoints n every start)) new.reads new.may_leave)

-- each moment of such a run satisfies IsHeldOn
abbrev pub HasTrueMoments : SetupFields → ℕ → ℕ → DeskState → DeskState → Type 0
HasTrueMoments setup n every old new = IfHoldsSerial setup old (λ file start.
    Elapses old new (IsHeldOn setup n every start old.may_leave file old.told))

-- Nothing was told, and where the contents of the desk's file are known, it was not written at any moment.
pub record IsLeftAlone (old new : DeskState) : Type 0 where
  pub told : new.told ≡ old.told
  pub reads : IfSome old.reads (λ file. new.reads ≡ old.reads)
  pub quiet : IfSome old.reads (λ file. Elapses old new (λ image text. old.may_leave image))
