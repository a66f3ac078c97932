-- What a task leaves when it is done, and when it stops.
use Rattle.std.specs.Prelude.{IfSome, Some, ◌≡◌, ◌⊎◌}
use Rattle.bank_recover.specs.declared.faults.BankFault.{BankFault}
use Rattle.desk_io.specs.Desk.{Appended, AppendedSome, DeskState, Elapses}
use Rattle.soup_checkpoint.specs.declared.faults.HoldFault.{HoldFault}
use Rattle.desk_io.specs.Told.{AppendedLess}
use Rattle.soup_hold.specs.Holding.{CanHold, IsEarly, RefusesHold}
use Rattle.soup_top.specs.declared.asking.Task.{Task}
use Rattle.soup_top.specs.declared.stop.RunStop.{RunStop}
use Rattle.soup_top.specs.Checkpoints.{HasTrueMoments, IsLeftAlone, LeavesLast, Resumes}
use Rattle.soup_top.specs.Genebank.{BeginsWith, DiskIsOfHistory, IsTrueMoment, KeepsUp, RefusesRun}
use Rattle.soup_top.specs.Stops.{IfHoldRefused, IfRefused, UnlessTelling}
use Rattle.soup_top.specs.Tasks.{ForTextOf, IsTellingFor, IsToldWhenRefused, OfHold, OfRun, RefusesHolding}
use Rattle.soup_top.specs.Tasks.{RefusesTask, UnlessWriting}

-- The task is done: its text was told. A run left a genebank that begins with its groups. A run with checkpoints had no
-- state that was too large; if it went on from a world of the serial run, it told that run's text and left its last
-- checkpoint.
pub record IsDoneFor (t : Task) (old new : DeskState) : Type 0 where
  pub told : ForTextOf t old.reads (λ text. Appended old.told text new.told)
  pub begins : OfRun t (λ setup n. IfSome old.reads (λ file. BeginsWith setup n file new.reads new.may_leave))
  pub small : OfHold t (λ setup n every. IfSome old.reads (λ file. CanHold setup n every (Some file)))
  pub resumed : OfHold t (λ setup n every. Resumes setup n every old new)
  pub last : OfHold t (λ setup n every. LeavesLast setup n every old new)

-- The genebank was refused for this reason. Where the contents of the desk's file are known, it was not written at any
-- moment, and nothing was told but the lines of a run's groups before one that differs.
pub record IsRefusedFor (t : Task) (old new : DeskState) (f : BankFault) : Type 0 where
  pub reason : RefusesTask t old.reads f
  pub unwritten : IfSome old.reads (λ file. new.reads ≡ old.reads)
  pub quiet : IfSome old.reads (λ file. Elapses old new (λ image text. old.may_leave image))
  pub told : IfSome old.reads (λ file. IsToldWhenRefused t old.told new.told f)

-- The checkpoints were refused for this reason. If that came before any state was appended, the desk was left alone.
pub record IsHoldRefusedFor (t : Task) (old new : DeskState) (f : HoldFault) : Type 0 where
  pub reason : RefusesHolding t old.reads f
  pub early : IsEarly f → IsLeftAlone old new

-- The task stopped: nothing was told or the first bytes of its text, and not all of them unless a tell failed.
pub record IsStoppedFor (t : Task) (old new : DeskState) (s : RunStop) : Type 0 where
  pub partly : (new.told ≡ old.told) ⊎ ForTextOf t old.reads (λ text. AppendedSome old.told text new.told)
  pub unfinished : UnlessTelling s
      ((new.told ≡ old.told) ⊎ ForTextOf t old.reads (λ text. AppendedLess old.told text new.told))
  pub refused : IfRefused s (IsRefusedFor t old new)
  pub hold_refused : IfHoldRefused s (IsHoldRefusedFor t old new)

-- What holds at each moment of a task, however it ends.
pub record HasMomentsFor (t : Task) (old new : DeskState) : Type 0 where
  pub crash : OfRun t (λ setup n. DiskIsOfHistory setup old.reads old.may_leave
      → Elapses old new (IsTrueMoment setup n old.told))
  pub kept_up : OfRun t (λ setup n. KeepsUp setup n old new)
  pub quiet_run : OfRun t (λ setup n. IfSome old.reads (λ file. (f : BankFault) → RefusesRun setup n file f
      → Elapses old new (λ image text. old.may_leave image)))
  pub checkpoints : OfHold t (λ setup n every. HasTrueMoments setup n every old new)
  pub quiet_hold : OfHold t (λ setup n every. (f : HoldFault) → IsEarly f → IfSome old.reads (λ file.
      RefusesHold setup n every (Some file) f → Elapses old new (λ image text. old.may_leave image)))
  pub telling : UnlessWriting t (Elapses old new (IsTellingFor t old))
