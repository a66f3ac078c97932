-- A desk in memory: what it holds at each moment, and which of its calls fail.
use Rattle.std.specs.Prelude.{◌≡◌, ◌⊎◌, ℕ, ◌+◌, ◌-◌, ◌^◌, ◌<◌, ◌≤◌, Bool, if◌then◌else◌, List, [], ◌∷◌, ◌++◌, length}
use Rattle.std.specs.Prelude.{take, fold, count_by, Contains, Option, None, Some, IsSomeAnd}
use Rattle.desk_io.specs.Desk.{DeskState}
use Rattle.test_desks.specs.Calls.{made, is_tell, Moment, start, next, file_at, MayLeave}
use Rattle.test_desks.specs.Fits.{is_moment}
use Rattle.test_desks.specs.declared.call.Call.{Call}
use Rattle.test_desks.specs.declared.call.Call.TheVariants.{TooLong, Write}
use Rattle.test_desks.specs.declared.call.CallRecord.{CallRecord}

pub record MemDeskState : Type 0 where
  -- the file at the start, which was durable
  pub image : List ℕ
  -- the calls so far, the first one first, without those that found no memory
  pub calls : List CallRecord
  -- the numbers of the disk calls and of the tells that fail, each kind counted from 1
  pub disk_fails : List ℕ
  pub tell_fails : List ℕ
  -- the number, among all calls, from which on every call fails
  pub stop : Option ℕ
  pub disk_faults : ℕ
  pub tell_faults : ℕ
  -- the calls that found no memory
  pub starved : ℕ

-- the moment after these calls
abbrev pub after_calls : List ℕ → List CallRecord → Moment
after_calls image calls = fold next (start image) calls

abbrev pub now : MemDeskState → Moment
now d = after_calls d.image d.calls

-- the file with all that was written
abbrev pub file_of : MemDeskState → List ℕ
file_of d = file_at (now d)

-- what a read gives: the file, if these are calls that a desk in memory can have had
abbrev pub reads_of : MemDeskState → Option (List ℕ)
reads_of d = if is_moment (now d) then Some (file_of d) else None

-- a read gives the file
abbrev pub TellsFile : MemDeskState → Type 0
TellsFile d = reads_of d ≡ Some (file_of d)

-- what a crash now may leave, and the text told so far
abbrev pub images_of : MemDeskState → List ℕ → Type 0
images_of d = MayLeave (now d)

abbrev pub told_of : MemDeskState → List ℕ
told_of d = (now d).told

-- an image that a crash at this moment may leave, and the text told by then
pub record IsAt (m : Moment) (image text : List ℕ) : Type 0 where
  pub leaves : MayLeave m image
  pub told : text ≡ m.told

-- IsAt at some moment from number t on, where moment number k is the one after k calls
pub record IsSince (first : List ℕ) (calls : List CallRecord) (t : ℕ) (image text : List ℕ) : Type 0 where
  pub k : ℕ
  pub from : t ≤ k
  pub until : k ≤ length calls
  pub at : IsAt (after_calls first (take k calls)) image text

-- the number of this moment, and the moments since a given one
abbrev pub moment_of : MemDeskState → ℕ
moment_of d = length d.calls

abbrev pub moments_of : MemDeskState → ℕ → List ℕ → List ℕ → Type 0
moments_of d = IsSince d.image d.calls

-- its state as a desk
abbrev pub state_of : MemDeskState → DeskState
state_of d = record {
  reads = reads_of d;
  may_leave = images_of d;
  told = Some (told_of d);
  moment = moment_of d;
  moments = moments_of d;
  disk_faults = d.disk_faults;
  tell_faults = d.tell_faults;
}

-- the tells and the disk calls so far
abbrev pub tells_in : List CallRecord → ℕ
tells_in calls = count_by (λ r. is_tell r.call) calls

abbrev pub disk_calls_in : List CallRecord → ℕ
disk_calls_in calls = length calls - tells_in calls

-- the next call is the one from which all fail, or comes after it
abbrev pub IsStopped : MemDeskState → Type 0
IsStopped d = IsSomeAnd d.stop (λ stop. stop ≤ length d.calls + 1)

-- the next disk call, or the next tell, is listed to fail, or every call fails by now
abbrev pub IsDiskCallDue : MemDeskState → Type 0
IsDiskCallDue d = Contains d.disk_fails (disk_calls_in d.calls + 1) ⊎ IsStopped d

abbrev pub IsTellDue : MemDeskState → Type 0
IsTellDue d = Contains d.tell_fails (tells_in d.calls + 1) ⊎ IsStopped d

-- the desk with one more call in its record
abbrev pub noted : MemDeskState → Call → Bool → MemDeskState
noted d call failed = record d { calls = d.calls ++ made call failed ∷ [] }

-- A call was noted, and counted if it failed; or it found no memory, and failed with nothing noted.
abbrev pub Notes : (MemDeskState → Bool → MemDeskState) → (MemDeskState → MemDeskState) → MemDeskState → Call → Bool
    → MemDeskState → Type 0
Notes counted starved old call failed new = (new ≡ counted (noted old call failed) failed) ⊎ (new ≡ starved old)

-- the desk with a noted disk call counted if it failed, and the desk after one that found no memory
abbrev pub disk_counted : MemDeskState → Bool → MemDeskState
disk_counted d failed = record d { disk_faults = d.disk_faults + (if failed then 1 else 0) }

abbrev pub disk_starved : MemDeskState → MemDeskState
disk_starved d = record d { disk_faults = d.disk_faults + 1; starved = d.starved + 1 }

abbrev pub NotesDiskCall : MemDeskState → Call → Bool → MemDeskState → Type 0
NotesDiskCall = Notes disk_counted disk_starved

-- a write is noted as such, or as too long if it would end beyond the longest file
abbrev pub NotesWrite : MemDeskState → ℕ → List ℕ → Bool → MemDeskState → Type 0
NotesWrite old at piece failed new =
    (at + length piece ≤ 2 ^ 62 → NotesDiskCall old (Write at piece) failed new)
    × (2 ^ 62 < at + length piece → NotesDiskCall old (TooLong at (length piece)) failed new)

-- as disk_counted, disk_starved and NotesDiskCall, for a tell
abbrev pub tell_counted : MemDeskState → Bool → MemDeskState
tell_counted d failed = record d { tell_faults = d.tell_faults + (if failed then 1 else 0) }

abbrev pub tell_starved : MemDeskState → MemDeskState
tell_starved d = record d { tell_faults = d.tell_faults + 1; starved = d.starved + 1 }

abbrev pub NotesTell : MemDeskState → Call → Bool → MemDeskState → Type 0
NotesTell = Notes tell_counted tell_starved
