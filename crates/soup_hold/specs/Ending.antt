-- What a run with checkpoints leaves when it is done, and when it stops.
use Rattle.std.specs.Prelude.{IfSome, Some, ℕ, ◌≡◌, ◌⊎◌}
use Rattle.desk_io.specs.Desk.{Appended, AppendedSome, DeskState}
use Rattle.desk_io.specs.Told.{AppendedLess}
use Rattle.file_journal.specs.Steps.{IsUnwritten}
use Rattle.soup_checkpoint.specs.declared.faults.HoldFault.{HoldFault}
use Rattle.soup_hold.specs.declared.stop.HoldStop.{HoldStop}
use Rattle.soup_hold.specs.Holding.{CanHold, EndsWithLast, ForHoldText, IsEarly, RefusesHold}
use Rattle.soup_hold.specs.Stops.{IfRefused, UnlessTelling}
use Rattle.tierra_model.specs.Setups.{SetupFields}

-- It is done: its whole text was told, none of its states was too large, and the file holds its last checkpoint.
pub record IsDone (setup : SetupFields) (n every : ℕ) (old new : DeskState) : Type 0 where
  pub told : ForHoldText setup n every old.reads (λ text. Appended old.told text new.told)
  pub small : IfSome old.reads (λ file. CanHold setup n every (Some file))
  pub last : IfSome old.reads (λ file. EndsWithLast setup n every file new)

-- The file was refused for this reason. If that came before any state was appended, nothing was told, and where the
-- contents of the desk's file are known, it was not written.
pub record IsRefused (setup : SetupFields) (n every : ℕ) (old new : DeskState) (f : HoldFault) : Type 0 where
  pub reason : RefusesHold setup n every old.reads f
  pub untold : IsEarly f → new.told ≡ old.told
  pub unwritten : IsEarly f → IfSome old.reads (λ file. IsUnwritten old new)

-- It stopped: nothing was told or the first bytes of its text, and not all of them unless a tell failed.
pub record IsStopped (setup : SetupFields) (n every : ℕ) (old new : DeskState) (s : HoldStop) : Type 0 where
  pub partly : (new.told ≡ old.told)
      ⊎ ForHoldText setup n every old.reads (λ text. AppendedSome old.told text new.told)
  pub unfinished : UnlessTelling s ((new.told ≡ old.told)
      ⊎ ForHoldText setup n every old.reads (λ text. AppendedLess old.told text new.told))
  pub refused : IfRefused s (IsRefused setup n every old new)
