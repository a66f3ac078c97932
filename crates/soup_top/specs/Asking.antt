-- How a source was read, by the answer to what the words and the source ask for.
use Rattle.std.specs.Prelude.{Err, IfErr, IfOk, IfSome, List, Ok, Option, Result, length, ◌+◌, ◌<◌, ℕ}
use Rattle.desk_io.specs.Source.{GivesAtMost, HasNoReadFault, IsDrained, SourceState}
use Rattle.soup_words.specs.declared.order.Order.{Order}
use Rattle.soup_top.specs.declared.asking.Task.{Task}
use Rattle.soup_top.specs.declared.asking.TheConstants.{MOST_BYTES}
use Rattle.soup_top.specs.declared.status.SourceFault.{SourceFault}
use Rattle.soup_top.specs.declared.status.SourceFault.TheVariants as fault
use Rattle.soup_top.specs.declared.status.Status.{Status}
use Rattle.soup_top.specs.declared.status.Status.TheVariants as status
use Rattle.soup_top.specs.Answers.{OnReadWhole, UnlessReadFault}
use Rattle.soup_top.specs.Sources.{Refused}
use Rattle.soup_top.specs.Tasks.{IsFew, IsTaskBy}
use Rattle.soup_top.specs.Words.{ReadsSource}

-- P holds at an answer that comes after the whole source was read
abbrev pub IfReadWhole : {T : Type 0} → Result T Status → Type 0 → Type 0
IfReadWhole (Ok x) P = P
IfReadWhole (Err s) P = OnReadWhole s P

-- P holds unless a read failed
abbrev pub UnlessReadFailed : {T : Type 0} → Result T Status → Type 0 → Type 0
UnlessReadFailed (Ok x) P = P
UnlessReadFailed (Err s) P = UnlessReadFault s P

-- Where the answer comes after the whole source was read, it was read to its end; and it was never read further than
-- one byte past MOST_BYTES. A read failed only if that is the answer.
pub record IsReadFor {T : Type 0} (result : Result T Status) (old new : SourceState) : Type 0 where
  pub to_its_end : IfReadWhole result (IsDrained old new)
  pub no_further : GivesAtMost (MOST_BYTES + 1) old new
  pub steady : UnlessReadFailed result (HasNoReadFault new)

-- the source is too long, or a read failed, or memory is wanting
abbrev pub IsReadStop : Option (List ℕ) → Type 0 → Status → Type 0
IsReadStop left failed (status.SourceRefused fault.TooLong) = IfSome left (λ bytes. MOST_BYTES < length bytes)
IsReadStop left failed status.ReadFault = failed
IsReadStop left failed status.OutOfMemory = Unit {0}
IsReadStop left failed s = ⊥

-- the same, or the source's bytes are refused
abbrev pub IsSourceStop : (List ℕ → SourceFault → Type 0) → Option (List ℕ) → Type 0 → Status → Type 0
IsSourceStop Refuses left failed (status.SourceRefused f) = IfSome left (λ bytes. Refuses bytes f)
IsSourceStop Refuses left failed status.ReadFault = failed
IsSourceStop Refuses left failed status.OutOfMemory = Unit {0}
IsSourceStop Refuses left failed s = ⊥

-- What the source as a whole is by the relation Is, or why the answer has nothing of that.
pub record IsGiven {T : Type 0} (Is : List ℕ → T → Type 0) (Refuses : List ℕ → SourceFault → Type 0)
    (result : Result T Status) (old new : SourceState) : Type 0 where
  pub given : IfOk result (λ x. IfSome old.left (λ bytes. Is bytes x))
  pub refused : IfErr result (IsSourceStop Refuses old.left (0 < new.faults))
  pub read : IsReadFor result old new

-- The order's task, or why there is none.
pub record IsAsked (order : Order) (result : Result Task Status) (old new : SourceState) : Type 0 where
  pub task : IfOk result (IsTaskBy order old.left)
  pub few : IfOk result IsFew
  pub refused : IfErr result (λ s. ReadsSource order.action
      × IsSourceStop (Refused order.action) old.left (0 < new.faults) s)
  pub read : ReadsSource order.action → IsReadFor result old new
