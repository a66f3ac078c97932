-- What a desk in memory keeps beside the record of its calls.
use Rattle.std.specs.Prelude.{◌≡◌, ℕ, ◌≤◌, Bool, true, false, List, length, drop}
use Rattle.test_desks.specs.Calls.{Moment, file_at}
use Rattle.test_desks.specs.Fits.{IsMoment}
use Rattle.test_desks.specs.MemDesk.{tells_in}
use Rattle.test_desks.specs.declared.call.Call.{Call}
use Rattle.test_desks.specs.declared.call.Call.TheVariants.{Write, Sync, Tell}
use Rattle.test_desks.specs.declared.call.CallRecord.{CallRecord}

-- whether a call leaves the file, what a crash may leave of it, and the text as they were
abbrev pub changes_nothing : Call → Bool → Bool
changes_nothing (Write at piece) failed = false
changes_nothing Sync failed = failed
changes_nothing (Tell piece) failed = failed
changes_nothing _ failed = true

-- What is kept agrees with these calls and the moment after them: the durable file, the file that a read gives, the
-- told text, how many calls came before the file was made durable, and how many were tells.
pub record IsKept (calls : List CallRecord) (m : Moment) (durable file told : List ℕ)
    (synced tells : ℕ) : Type 0 where
  pub durable_is : durable ≡ m.durable
  pub file_is : file ≡ file_at m
  pub told_is : told ≡ m.told
  pub since_is : m.since ≡ drop synced calls
  pub synced_most : synced ≤ length calls
  pub tells_are : tells ≡ tells_in calls
  pub sound : IsMoment m
