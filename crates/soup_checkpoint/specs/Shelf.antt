-- A shelf, its file, and what its file is at each moment.
use Rattle.std.specs.Prelude.{◌≡◌, ◌⊎◌, ◌+◌, ◌↔◌, ℕ, All, List, ◌++◌, length, Option, Some, IfSome, IsSomeAnd}
use Rattle.std.specs.Prelude.{option_map, Result, Ok, Err}
use Rattle.desk_io.specs.Desk.{DeskState, HasNoFault, HasDiskFault, IsSettled}
use Rattle.file_journal.specs.Files.{ClosesAfter, header_of}
use Rattle.file_journal.specs.Steps.{IsUnwritten}
use Rattle.file_journal.specs.declared.faults.FileFault.{FileFault}
use Rattle.file_journal.specs.declared.faults.FileFault.TheVariants as file
use Rattle.world_core.specs.Running.{WorldFields}
use Rattle.world_state.specs.Restoring.{AreBytesOf, IsStateOf}
use Rattle.world_state.specs.StateBytes.{state_bytes}
use Rattle.soup_checkpoint.specs.Frames.{IsShort, opened, spelling}
use Rattle.soup_checkpoint.specs.Hold.{Says, header_for}
use Rattle.soup_checkpoint.specs.declared.faults.HoldFault.{HoldFault}
use Rattle.soup_checkpoint.specs.declared.faults.HoldFault.TheVariants as fault
use Rattle.soup_checkpoint.specs.declared.faults.ShelfFault.{ShelfFault}
use Rattle.soup_checkpoint.specs.declared.faults.ShelfFault.TheVariants as shelf
use Rattle.soup_checkpoint.specs.declared.owner.Owner.{Owner}

-- What contracts see of a Shelf.
pub record ShelfState : Type 0 where
  pub owner : Owner
  -- the place of the closed gate after the frames
  pub gate : ℕ
  -- the bytes of the frame that there is room for
  pub room : Option (List ℕ)

-- room was made for this state
pub record HasRoomFor (s : ShelfState) (state : List ℕ) : Type 0 where
  pub text : s.room ≡ Some (spelling state)
  pub short : IsShort state
  pub sound : IsStateOf s.owner.settings state

-- the file is the owner's, and has frames up to the gate at this place, which is closed
pub record IsAtRest (owner : Owner) (gate : ℕ) (file : List ℕ) : Type 0 where
  pub states : List (List ℕ)
  pub closes : ClosesAfter (header_of (header_for owner) ++ opened states) file
  pub each : All IsShort states
  pub place : gate ≡ 44 + length (opened states)

-- the desk's file is the shelf's, all of it is durable, and no call has failed
pub record IsAttached (s : ShelfState) (d : DeskState) : Type 0 where
  pub settled : IsSettled d
  pub at_rest : IfSome d.reads (IsAtRest s.owner s.gate)

-- the image says that this is the last state, or that there is none
abbrev pub Holds : Owner → Option (List ℕ) → List ℕ → Type 0
Holds owner held image = Says image owner (Ok held)

-- the file has this last state, and the closed gate after its frame is at this place
abbrev pub HoldsUpTo : Owner → ℕ → List ℕ → List ℕ → Type 0
HoldsUpTo owner gate state file = IsAtRest owner gate file × Holds owner (Some state) file

-- the two images say the same
abbrev pub SaysSame : Owner → List ℕ → List ℕ → Type 0
SaysSame owner was image = (r : Result (Option (List ℕ)) HoldFault) → Says was owner r ↔ Says image owner r

-- the image says the same as one that a crash might have left at the start, or as the file that was read then
abbrev pub SaysAsBefore : Owner → (List ℕ → Type 0) → List ℕ → List ℕ → Type 0
SaysAsBefore owner may_leave file image = (was : List ℕ) × (may_leave was ⊎ (was ≡ file)) × SaysSame owner was image

-- the image says what the file said, or holds the new state
abbrev pub SaysBeforeOrAfter : Owner → List ℕ → List ℕ → List ℕ → Type 0
SaysBeforeOrAfter owner state file image = SaysSame owner file image ⊎ Holds owner (Some state) image

-- the world is a sound one with the owner's settings
abbrev pub IsWorldOf : Owner → WorldFields → Type 0
IsWorldOf owner w = AreBytesOf owner.settings (state_bytes w.world) w.world

-- the state of the world, if there is one
abbrev pub held_of : Option WorldFields → Option (List ℕ)
held_of world = option_map (λ w. state_bytes w.world) world

-- A shelf of this owner was attached. The world is the one that the file held when it was read at the start, and the
-- file still holds it.
pub record Attaches (owner : Owner) (old new : DeskState) (s : ShelfState) (world : Option WorldFields) : Type 0 where
  pub owner_is : s.owner ≡ owner
  pub world_is : IfSome world (IsWorldOf owner)
  pub held : IfSome old.reads (Holds owner (held_of world))
  pub attached : IsAttached s new
  pub still : IfSome old.reads (λ file. IsSomeAnd new.reads (Holds owner (held_of world)))

-- The file was refused for this reason, and not written.
pub record Refuses (owner : Owner) (old new : DeskState) (f : HoldFault) : Type 0 where
  pub says : IfSome old.reads (λ file. Says file owner (Err f))
  pub unwritten : IsUnwritten old new

-- The state was appended: the file holds it, and the shelf is attached after its frame.
pub record Appends (was : ShelfState) (state : List ℕ) (old new : DeskState) (s : ShelfState) : Type 0 where
  pub owner_is : s.owner ≡ was.owner
  pub attached : IsAttached s new
  pub held : IfSome old.reads (λ file. IsSomeAnd new.reads (Holds was.owner (Some state)))

-- the fault is one of the file itself
abbrev pub IsOfFile : HoldFault → Type 0
IsOfFile (fault.Beyond held) = ⊥
IsOfFile (fault.TooLarge quantum bytes) = ⊥
IsOfFile _ = Unit {0}

-- P holds of the fault if the file was refused
abbrev pub IfHoldRefused : ShelfFault → (HoldFault → Type 0) → Type 0
IfHoldRefused (shelf.Refused f) P = P f
IfHoldRefused shelf.DiskFault P = Unit {0}
IfHoldRefused shelf.OutOfMemory P = Unit {0}

-- the fault is DiskFault exactly if the disk failed
abbrev pub CountsFault : ShelfFault → DeskState → Type 0
CountsFault (shelf.Refused f) d = HasNoFault d
CountsFault shelf.DiskFault d = HasDiskFault d
CountsFault shelf.OutOfMemory d = HasNoFault d

abbrev pub CountsFaults : {T : Type 0} → Result T ShelfFault → DeskState → Type 0
CountsFaults (Ok x) d = HasNoFault d
CountsFaults (Err e) d = CountsFault e d

-- the fault of a file that was not opened
abbrev pub shelf_fault : FileFault → ShelfFault
shelf_fault file.DiskFault = shelf.DiskFault
shelf_fault file.OutOfMemory = shelf.OutOfMemory
