-- What the calls of a desk in memory do to its file and its text, and what a crash may make of them.
use Rattle.std.specs.Prelude.{◌≡◌, ℕ, Bool, true, false, if◌then◌else◌, ◌==◌, List, [], ◌∷◌, ◌++◌, length, fold}
use Rattle.std.specs.Prelude.{replicate}
use Rattle.desk_io.specs.Desk.{AreBytes, spliced, Torn}
use Rattle.test_desks.specs.declared.call.Call.{Call}
use Rattle.test_desks.specs.declared.call.Call.TheVariants.{Write, Sync, Tell}
use Rattle.test_desks.specs.declared.call.CallRecord.{CallRecord}

-- a call that was made, and whether it failed
abbrev pub made : Call → Bool → CallRecord
made call failed = record { call = call; failed = failed }

abbrev pub is_tell : Call → Bool
is_tell (Tell piece) = true
is_tell _ = false

-- a file after a call, where a write puts `change piece` there instead of its piece
abbrev pub written_with : (List ℕ → List ℕ) → List ℕ → Call → List ℕ
written_with change file (Write at piece) = spliced file at (change piece)
written_with change file _ = file

-- a file after some calls; a write that failed counts as a write
abbrev pub file_with : (List ℕ → List ℕ) → List ℕ → List CallRecord → List ℕ
file_with change file records = fold (λ f r. written_with change f r.call) file records

-- what a crash may make of a file by a call
abbrev pub AfterCrash : List ℕ → Call → List ℕ → Type 0
AfterCrash file (Write at piece) image = Torn at (length piece) file image
AfterCrash file _ image = image ≡ file

-- what a crash may make of a file by some calls, the first one first
abbrev pub CrashLeaves : List ℕ → List CallRecord → List ℕ → Type 0
CrashLeaves file [] image = image ≡ file
CrashLeaves file (r ∷ records) image =
    (torn : List ℕ) × AfterCrash file r.call torn × CrashLeaves torn records image

-- A moment: the file as it was last made durable, the calls since then, and the text told so far.
pub record Moment : Type 0 where
  pub durable : List ℕ
  pub since : List CallRecord
  pub told : List ℕ

abbrev pub start : List ℕ → Moment
start image = record { durable = image; since = []; told = [] }

-- what a read gives
abbrev pub file_at : Moment → List ℕ
file_at m = file_with (λ piece. piece) m.durable m.since

abbrev next_by : Moment → CallRecord → Call → Bool → Moment
next_by m r Sync false = record { durable = file_at m; since = []; told = m.told }
next_by m r (Tell piece) false = record m { since = m.since ++ r ∷ []; told = m.told ++ piece }
next_by m r _ _ = record m { since = m.since ++ r ∷ [] }

-- the moment after one more call: a sync makes the file durable, and a tell appends its piece, unless they fail
abbrev pub next : Moment → CallRecord → Moment
next m r = next_by m r r.call r.failed

-- the images that a crash at this moment may leave
abbrev pub MayLeave : Moment → List ℕ → Type 0
MayLeave m image = AreBytes image × CrashLeaves m.durable m.since image

-- what the picked crash leaves of a written piece: 2 and 3 fill its range
abbrev pub picked_piece : ℕ → List ℕ → List ℕ
picked_piece pick piece =
    if pick == 2 then replicate (length piece) 0xff
    else (if pick == 3 then replicate (length piece) 0x01 else piece)

-- one image that a crash may leave: 0 is without the writes since the file was made durable, 1 with them, 2 and 3
-- with their ranges filled
abbrev pub crash_image : ℕ → Moment → List ℕ
crash_image pick m = if pick == 0 then m.durable else file_with (picked_piece pick) m.durable m.since
