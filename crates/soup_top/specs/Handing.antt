-- How far a run's groups were taken to its bank, and why that stopped.
use Rattle.std.specs.Prelude.{ℕ, ◌≡◌, ◌≤◌, List, length, take, MatchOption, Option, Some, None, IfSome}
use Rattle.tierra_model.specs.Genebank.{GroupsFit}
use Rattle.tierra_model.specs.Groups.{GroupFields}
use Rattle.bank_journal.specs.Bank.{BankState, IsAttached}
use Rattle.bank_journal.specs.Steps.{StaysTold}
use Rattle.desk_io.specs.Desk.{Appended, AppendedSome, DeskState, Elapses, KeepsDisk}
use Rattle.report_text.specs.Bank.{saved_lines}
use Rattle.soup_top.specs.declared.hand.Keeper.{Keeper}
use Rattle.soup_top.specs.declared.hand.Start.{Start}
use Rattle.soup_top.specs.declared.stop.RunStop.{RunStop}
use Rattle.soup_top.specs.Genebank.{IsFirstToDiffer}
use Rattle.soup_top.specs.Keeping.{IsKeeping, grown}
use Rattle.soup_top.specs.Sources.{run_groups}
use Rattle.soup_top.specs.Stops.{CountsStop, IfDiffers}

-- The first k groups of a run were taken to a bank that had some, and their lines were told.
pub record TakenSoFar (had run : List GroupFields) (k : ℕ) (groups : List GroupFields)
    (before now : Option (List ℕ)) : Type 0 where
  pub groups_are : groups ≡ grown had run k
  pub fits : GroupsFit (take k groups) (take k run)
  pub told : Appended before (saved_lines (take k run)) now

-- The first k groups of a run were taken to its bank since the start, and the bank is still attached. Where it had at
-- least k groups at the start, the disk was left alone.
pub record HasTaken (first : BankState) (run : List GroupFields) (old now : DeskState) (k : ℕ)
    (bank : BankState) : Type 0 where
  pub digest : bank.digest ≡ first.digest
  pub inside : k ≤ length run
  pub so_far : TakenSoFar first.groups run k bank.groups old.told now.told
  pub attached : IsAttached bank now
  pub still : StaysTold old now
  pub kept : k ≤ length first.groups → KeepsDisk old now
  pub time : IfSome old.reads (λ file. Elapses old now
      (IsKeeping first.digest first.groups run (saved_lines run) old.told))

-- Taking groups stopped at this cause. Where a group of the bank differs, the disk was left alone, whatever the cause.
pub record HasStopped (first : BankState) (run : List GroupFields) (old now : DeskState)
    (cause : RunStop) : Type 0 where
  pub differs : IfDiffers cause (λ k. IsFirstToDiffer first.groups run k
      × Appended old.told (saved_lines (take k run)) now.told)
  pub kept : (k : ℕ) → IsFirstToDiffer first.groups run k → KeepsDisk old now
  pub time : IfSome old.reads (λ file. Elapses old now
      (IsKeeping first.digest first.groups run (saved_lines run) old.told))
  pub partly : AppendedSome old.told (saved_lines run) now.told
  pub counts : CountsStop cause now

-- all groups of a run were taken to its bank since the start
abbrev pub TookAll : BankState → List GroupFields → DeskState → DeskState → Type 0
TookAll first run old now = (bank : BankState) × HasTaken first run old now (length run) bank

-- ---- a run's hand

-- the groups of the run that began so
abbrev pub groups_of : {D : Type 0} → Start D → List GroupFields
groups_of start = run_groups start.plan.value.setup start.plan.value.quanta

abbrev pub GoesOn : {D : Type 0} → (D → DeskState) → Start D → D → Keeper → Type 0
GoesOn state start desk keeper =
    (bank : BankState) × (keeper.bank ≡ Some bank)
    × HasTaken start.bank.value (groups_of start) (state start.desk.value) (state desk) keeper.done bank

abbrev pub StopsAt : {D : Type 0} → (D → DeskState) → Start D → D → RunStop → Type 0
StopsAt state start desk = HasStopped start.bank.value (groups_of start) (state start.desk.value) (state desk)

-- The run goes on, or it has stopped at the cause that the keeper holds.
abbrev pub IsOnTheWay : {D : Type 0} → (D → DeskState) → Start D → D → Keeper → Type 0
IsOnTheWay state start desk keeper = MatchOption keeper.stopped (GoesOn state start desk keeper)
    (StopsAt state start desk)

abbrev pub number_of_stops : Option RunStop → ℕ
number_of_stops None = 0
number_of_stops (Some cause) = 1
