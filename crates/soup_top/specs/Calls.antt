-- What one call of the program promises: a record for each promise, over one record of the call.
use Rattle.std.specs.Prelude.{◌≡◌, ◌<◌, ◌⊎◌, ◌+◌, ℕ, IfSome, List, Option, Some, String}
use Rattle.std.specs.Global.{Global, Vec}
use Rattle.bank_recover.specs.declared.faults.BankFault.{BankFault}
use Rattle.desk_io.specs.Desk.{Appended, AppendedSome, DeskState, HasNoFault, Untouched}
use Rattle.desk_io.specs.Source.{GivesAtMost, HasNoReadFault, IsDrained, SourceState}
use Rattle.soup_checkpoint.specs.declared.faults.HoldFault.{HoldFault}
use Rattle.desk_io.specs.Told.{AppendedLess, IsToldPart}
use Rattle.soup_hold.specs.Holding.{CanHold, IsEarly, RefusesHold}
use Rattle.soup_words.specs.declared.order.Order.{Order}
use Rattle.tierra_model.specs.Groups.{GroupFields}
use Rattle.tierra_model.specs.Setups.{SetupFields}
use Rattle.soup_top.specs.declared.asking.TheConstants.{MOST_BYTES}
use Rattle.soup_top.specs.declared.status.Status.{Status}
use Rattle.soup_top.specs.declared.status.Status.TheVariants as status
use Rattle.soup_top.specs.Answers.{AsksForHoldOf, AsksForRunOf, Cause, DiskIsOfHold, DiskIsOfRun, EachMoment, ForText}
use Rattle.soup_top.specs.Answers.{GivesNothingToWrite, OnBankRefused, OnDone, OnHoldRefused, OnReadWhole, OnStopped}
use Rattle.soup_top.specs.Answers.{OnUncalled, UnlessDiskFault, UnlessReadFault, UnlessTellFault}
use Rattle.soup_top.specs.Checkpoints.{IfHoldsSerial, IsHeldOn, LeavesLast, Resumes}
use Rattle.soup_top.specs.Genebank.{BeginsWith, DiskIsOfHistory, HasGroups, IsInStep, IsTrueMoment, RefusesRun}
use Rattle.soup_top.specs.Keeping.{IsToldAtRefusal}
use Rattle.soup_top.specs.Sources.{IsTextOf, read_by, run_groups, run_text}
use Rattle.soup_top.specs.Words.{AsksFor, ReadsSource, texts_of}

-- ---- a call

-- One call of the program, by all that its caller sees of it.
pub record Call : Type 1 where
  -- the words of the command line
  pub words : List (List ℕ)
  -- the source, as the call begins and as it returns
  pub source : SourceState
  pub source_after : SourceState
  -- the desk, as the call begins and as it returns
  pub desk : DeskState
  pub desk_after : DeskState
  -- that the source, or the desk, is the same value as before, since nothing of it was called
  pub leaves_source : Type 0
  pub leaves_desk : Type 0
  -- the answer
  pub status : Status

-- the call with these words, source and desk, whose states are seen like this
abbrev pub call : {S D : Type 0} → (S → SourceState) → (D → DeskState) → Vec (String Global) → S → S → D → D → Status
    → Call
call source_state desk_state words source source_after desk desk_after status = record {
  words = texts_of words;
  source = source_state source;
  source_after = source_state source_after;
  desk = desk_state desk;
  desk_after = desk_state desk_after;
  leaves_source = source_after ≡ source;
  leaves_desk = desk_after ≡ desk;
  status = status;
}

-- P holds of the setup and the quanta of each run that the words ask for
abbrev pub OfRuns : Call → (SetupFields → ℕ → Type 0) → Type 0
OfRuns c P = (setup : SetupFields) (n : ℕ) → AsksForRunOf c.words c.source.left setup n → P setup n

-- the same of each run with checkpoints, which are so many quanta apart
abbrev pub OfHolds : Call → (SetupFields → ℕ → ℕ → Type 0) → Type 0
OfHolds c P =
    (setup : SetupFields) (n every : ℕ) → AsksForHoldOf c.words c.source.left setup n every → P setup n every

-- P holds of the disk's file as the call begins, where the desk tells it
abbrev pub OfFile : Call → (List ℕ → Type 0) → Type 0
OfFile c P = IfSome c.desk.reads P

-- P holds at each moment of the call: of an image that a crash may leave then, and the text told by then
abbrev pub AtEachMoment : Call → (List ℕ → List ℕ → Type 0) → Type 0
AtEachMoment c P = EachMoment c.desk c.desk_after P

-- a crash at each moment of the call leaves what it might have left when the call began
abbrev pub IsQuiet : Call → Type 0
IsQuiet c = AtEachMoment c (λ image text. c.desk.may_leave image)

-- a read of the file gives the same as before
abbrev pub ReadsTheSame : Call → Type 0
ReadsTheSame c = c.desk_after.reads ≡ c.desk.reads

-- nothing was told
abbrev pub TellsNothing : Call → Type 0
TellsNothing c = c.desk_after.told ≡ c.desk.told

-- A text that the words ask for was told: all of it (Appended), its first bytes (AppendedSome), or its first bytes
-- without its end (AppendedLess).
abbrev pub TellsAsked : Call → (Option (List ℕ) → List ℕ → Option (List ℕ) → Type 0) → Type 0
TellsAsked c IsTold = ForText c.words c.source.left c.desk.reads (λ text. IsTold c.desk.told text c.desk_after.told)

-- at a moment: the image is one that a crash might have left when the call began, and nothing was told since, or the
-- first bytes of a text that the words ask for
abbrev pub IsTellingAsked : Call → List ℕ → List ℕ → Type 0
IsTellingAsked c image text = c.desk.may_leave image
    × ((c.desk.told ≡ Some text)
    ⊎ ForText c.words c.source.left c.desk.reads (λ whole. IsToldPart c.desk.told whole text))

-- ---- what a run leaves

-- A run that is done told the right text, and its genebank is on disk.
pub record HasRightText (c : Call) : Type 0 where
  -- just the saved lines and the report of the world that the serial slicer reaches were told
  pub told : OnDone c.status (OfRuns c (λ setup n. Appended c.desk.told (run_text setup n) c.desk_after.told))
  -- the disk has the groups that the file had, which fit the run's, and after them the run's others
  pub begins : OnDone c.status (OfRuns c (λ setup n. OfFile c (λ file.
      BeginsWith setup n file c.desk_after.reads c.desk_after.may_leave)))

-- A crash of a run leaves a true genebank.
pub record LeavesTrueGenebank (c : Call) : Type 0 where
  -- if the disk was of the setup's history, a crash at any moment leaves the genebank of that history at some quantum,
  -- with every genotype whose saved line was told
  pub crash : OfRuns c (λ setup n. DiskIsOfHistory setup c.desk.reads c.desk.may_leave
      → AtEachMoment c (IsTrueMoment setup n c.desk.told))

-- The saved lines of a run keep up with its genebank.
pub record KeepsLinesUp (c : Call) : Type 0 where
  -- if the file had groups of the setup, or none yet, a crash at any moment leaves what it might have left at the start
  -- and nothing was told since; or it leaves the run's first k groups too, and just the lines of group k may be lacking
  pub kept_up : OfRuns c (λ setup n. OfFile c (λ file. (had : List GroupFields) → HasGroups setup had file
      → AtEachMoment c (IsInStep setup n had c.desk.may_leave file c.desk.told)))

-- A run with checkpoints comes to the end of a run that never stopped.
pub record ComesToSameEnd (c : Call) : Type 0 where
  -- done, from a world of the serial run or from the start, it told a line for each later checkpoint and the serial
  -- run's report
  pub resumed : OnDone c.status (OfHolds c (λ setup n every. Resumes setup n every c.desk c.desk_after))
  -- .. and the disk holds the last of them, so that a run to a later quantum goes on from there
  pub last : OnDone c.status (OfHolds c (λ setup n every. LeavesLast setup n every c.desk c.desk_after))
  -- done, it appended no state that is too large
  pub small : OnDone c.status (OfHolds c (λ setup n every. OfFile c (λ file. CanHold setup n every (Some file))))
  -- If the file held a world of the serial run, or none, a crash at any moment leaves what it might have left at the
  -- start, and nothing was told since; or it leaves that world or a later checkpoint: none earlier than one that was
  -- told, and at most one that was not told yet. What was told begins the run's text.
  pub checkpoints : OfHolds c (λ setup n every. IfHoldsSerial setup c.desk (λ file start.
      AtEachMoment c (IsHeldOn setup n every start c.desk.may_leave file c.desk.told)))

-- ---- what is told

-- Every action that is done told just its text.
pub record TellsWhatIsAsked (c : Call) : Type 0 where
  -- the whole text that the words ask for was told, and nothing else
  pub done : OnDone c.status (TellsAsked c Appended)

-- Whatever the answer, what was told begins the text of a call that is done.
pub record TellsNothingElse (c : Call) : Type 0 where
  -- nothing was told, or the first bytes of the text that the words ask for
  pub prefix : TellsNothing c ⊎ TellsAsked c AppendedSome
  -- at an answer but Done and a failed tell, nothing was told, or the text lacks its end
  pub unfinished : OnStopped c.status (TellsNothing c ⊎ TellsAsked c AppendedLess)
  -- where nothing is to be written, it is so at each moment, and a crash leaves what it might have left at the start
  pub telling : GivesNothingToWrite c.words c.source.left → AtEachMoment c (IsTellingAsked c)

-- ---- what is refused

-- The words ask for the order, the bytes that it reads are accepted, and the disk's file is as its action needs it.
pub record IsAsItShould (c : Call) (order : Order) : Type 0 where
  pub asked : AsksFor c.words order
  pub bytes : List ℕ
  pub given : read_by order.action c.source.left c.desk.reads ≡ Some bytes
  pub text : List ℕ
  pub accepted : IsTextOf order bytes c.desk.reads text
  pub run : DiskIsOfRun order bytes c.desk.reads c.desk.may_leave
  pub hold : DiskIsOfHold order bytes c.desk.reads

-- no call of the source or the desk failed
pub record NothingFailed (c : Call) : Type 0 where
  pub source : HasNoReadFault c.source_after
  pub desk : HasNoFault c.desk_after

-- Each refusal has its cause.
pub record HasItsCause (c : Call) : Type 0 where
  -- each answer has its cause, but for Done and want of memory
  pub cause : Cause c.words c.source.left c.desk.reads (0 < c.source_after.faults) (0 < c.desk_after.disk_faults)
      (0 < c.desk_after.tell_faults) c.status
  -- where all is as it should be and nothing failed, the answer is Done or want of memory
  pub complete : (order : Order) → IsAsItShould c order → NothingFailed c
      → (c.status ≡ status.Done) ⊎ (c.status ≡ status.OutOfMemory)

-- A file that is refused is not written.
pub record SparesRefusedFile (c : Call) : Type 0 where
  -- only grow, run and hold write, and only once their source is accepted
  pub untouched : GivesNothingToWrite c.words c.source.left → Untouched c.desk c.desk_after
  -- a genebank that is refused reads the same as before
  pub unwritten : OnBankRefused c.status (λ f. OfFile c (λ file. ReadsTheSame c))
  -- .. and a crash at each moment leaves what it might have left before
  pub quiet : OnBankRefused c.status (λ f. OfFile c (λ file. IsQuiet c))
  -- .. and so it is in a run, whatever the answer, if the file is one that the run must refuse
  pub quiet_run : OfRuns c (λ setup n. OfFile c (λ file. (f : BankFault) → RefusesRun setup n file f → IsQuiet c))
  -- nothing was told by then, but for the lines of the groups before one that differs
  pub told_at_refusal : OnBankRefused c.status (λ f. OfRuns c (λ setup n. OfFile c (λ file.
      IsToldAtRefusal (run_groups setup n) c.desk.told c.desk_after.told f)))
  -- checkpoints that are refused before one is appended read the same as before, and nothing was told
  pub hold_early : OnHoldRefused c.status (TellsNothing c × OfFile c (λ file. ReadsTheSame c))
  -- .. and a crash at each moment leaves what it might have left before
  pub hold_quiet : OnHoldRefused c.status (OfFile c (λ file. IsQuiet c))
  -- .. and so it is in a run with checkpoints, whatever the answer, if the file is one that it must refuse so early
  pub quiet_hold : OfHolds c (λ setup n every. (f : HoldFault) → IsEarly f → OfFile c (λ file.
      RefusesHold setup n every (Some file) f → IsQuiet c))

-- ---- what is called

-- The source and the desk are called as far as needed, and no call follows one that failed.
pub record CallsNoMore (c : Call) : Type 0 where
  -- an action that reads a source has read it to its end, at any answer that comes after that
  pub to_its_end : (order : Order) → AsksFor c.words order → ReadsSource order.action
      → OnReadWhole c.status (IsDrained c.source c.source_after)
  -- an action that reads no source leaves it alone
  pub unread : (order : Order) → AsksFor c.words order → (ReadsSource order.action → ⊥) → c.leaves_source
  -- a source is never read further than one byte past MOST_BYTES
  pub no_further : GivesAtMost (MOST_BYTES + 1) c.source c.source_after
  -- refused words, a refused source and a failed read leave the desk alone
  pub uncalled : OnUncalled c.status c.leaves_desk
  -- no read failed, unless the answer is that one did
  pub source_steady : UnlessReadFault c.status (HasNoReadFault c.source_after)
  -- no disk call failed, unless the answer is that one did
  pub disk_steady : UnlessDiskFault c.status (c.desk_after.disk_faults ≡ 0)
  -- no tell failed, unless the answer is that one did
  pub tell_steady : UnlessTellFault c.status (c.desk_after.tell_faults ≡ 0)
