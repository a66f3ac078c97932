-- How the promises of a call are kept, by what its task did or where none was begun.
use Rattle.std.proofs.Common.{◌≡◌, ◌⊎◌, sym, subst, inl, inr, ℕ, ◌<◌, List, Option, Some}
use Rattle.bank_journal.proofs.Times.{each_file, for_file}
use Rattle.bank_recover.specs.declared.faults.BankFault.{BankFault}
use Rattle.desk_io.specs.Desk.{Appended, DeskState, Elapses, IsLawful, IsNow, Untouched}
use Rattle.desk_io.proofs.Time.{Elapses-weaker}
use Rattle.soup_checkpoint.specs.declared.faults.HoldFault.{HoldFault}
use Rattle.desk_io.specs.Told.{AppendedLess}
use Rattle.soup_hold.specs.Holding.{CanHold, IsEarly, RefusesHold}
use Rattle.tierra_model.specs.Setups.{SetupFields}
use Rattle.soup_top.specs.declared.asking.Task.{Task}
use Rattle.soup_top.specs.declared.asking.Task.TheVariants as task
use Rattle.soup_top.specs.declared.status.Status.{Status}
use Rattle.soup_top.specs.declared.status.Status.TheVariants as status
use Rattle.soup_top.specs.declared.stop.RunStop.{RunStop}
use Rattle.soup_top.specs.declared.stop.RunStop.TheVariants as stop
use Rattle.soup_top.specs.Answers.{AskingCause, Cause, GivesNothingToWrite, OnBankRefused, OnDone, OnHoldRefused, OnStopped}
use Rattle.soup_top.specs.Calls.{Call, ComesToSameEnd, HasRightText, IsQuiet, IsTellingAsked, AtEachMoment, KeepsLinesUp, LeavesTrueGenebank, OfFile}
use Rattle.soup_top.specs.Calls.{OfHolds, OfRuns}
use Rattle.soup_top.specs.Calls.{ReadsTheSame, HasItsCause, SparesRefusedFile, TellsAsked, TellsNothing, TellsNothingElse, TellsWhatIsAsked}
use Rattle.soup_top.specs.Checkpoints.{HasTrueMoments, HoldsSerial, IsHeldOn, IsLeftAlone, LeavesLast, Resumes}
use Rattle.soup_top.specs.Ending.{HasMomentsFor, IsDoneFor, IsHoldRefusedFor, IsRefusedFor, IsStoppedFor}
use Rattle.soup_top.specs.Genebank.{BeginsWith, DiskIsOfHistory, IsTrueMoment, KeepsUp, RefusesRun}
use Rattle.soup_top.specs.Keeping.{IsToldAtRefusal}
use Rattle.soup_top.specs.Sources.{run_groups, run_text}
use Rattle.soup_top.specs.Statuses.{status_of}
use Rattle.soup_top.specs.Stops.{CountsStop, IfHoldRefused, IfRefused}
use Rattle.soup_top.specs.Tasks.{ForTextOf, IsTaskOf, IsTellingFor, IsToldWhenRefused, OfRun, OfText, UnlessWriting}
use Rattle.soup_top.proofs.Causes.{asking-has-cause, complete-by, stop-has-cause}
use Rattle.soup_top.proofs.Crashes.{all_are_true, all_in_step, now_is_true}
use Rattle.soup_top.proofs.OneTask.{of-hold-asked, of-run-asked, run-asked, unless-writing-asked}
use Rattle.soup_top.proofs.ToldTexts.{all-is-some, asked-text, asked-text-or}
use Rattle.soup_top.proofs.Unfinished.{by_status, still_unless, where_stopped}

-- ---- what a status is not

not_done : (s : RunStop) (P : Type 0) → OnDone (status_of s) P
not_done stop.DiskFault P = tt
not_done s P = tt

-- no answer before the desk is called is Done, or refuses a genebank or checkpoints
module _ (words : List (List ℕ)) (left : Option (List ℕ)) (R : Type 0) where
  asking_not_done : (s : Status) (P : Type 0) → AskingCause words left R s → OnDone s P
  asking_not_done status.Done P h = absurd h
  asking_not_done s P h = tt

  asking_spares_bank : (s : Status) (P : BankFault → Type 0) → AskingCause words left R s → OnBankRefused s P
  asking_spares_bank (status.BankRefused f) P h = absurd h
  asking_spares_bank s P h = tt

  asking_spares_hold : (s : Status) (P : Type 0) → AskingCause words left R s → OnHoldRefused s P
  asking_spares_hold (status.HoldRefused f) P h = absurd h
  asking_spares_hold s P h = tt

bank_refused : (s : RunStop) (P : BankFault → Type 0) → IfRefused s P → OnBankRefused (status_of s) P
bank_refused (stop.Refused f) P p = p
bank_refused s P p = tt

hold_refused : (s : RunStop) (t : Task) (old new : DeskState) → IfHoldRefused s (IsHoldRefusedFor t old new)
    → OnHoldRefused (status_of s) (IsLeftAlone old new)
hold_refused (stop.HoldRefused f) t old new h = h.early
hold_refused s t old new h = tt

-- what follows where a genebank, or checkpoints, are refused
each_refusal : (s : Status) (P Q : BankFault → Type 0) → ((f : BankFault) → P f → Q f) → OnBankRefused s P → OnBankRefused s Q
each_refusal (status.BankRefused f) P Q step p = step f p
each_refusal s P Q step p = tt

each_early : (s : Status) (P Q : Type 0) → (P → Q) → OnHoldRefused s P → OnHoldRefused s Q
each_early (status.HoldRefused f) P Q step p = λ early. step (p early)
each_early s P Q step p = tt

-- ---- what a call did

-- The further moments of a call, for each run that the words ask for.
pub record HasMoments (c : Call) : Type 0 where
  pub crash : OfRuns c (λ setup n. DiskIsOfHistory setup c.desk.reads c.desk.may_leave
      → Elapses c.desk c.desk_after (IsTrueMoment setup n c.desk.told))
  pub kept_up : OfRuns c (λ setup n. KeepsUp setup n c.desk c.desk_after)
  pub quiet_run : OfRuns c (λ setup n. OfFile c (λ file. (f : BankFault) → RefusesRun setup n file f
      → Elapses c.desk c.desk_after (λ image text. c.desk.may_leave image)))
  pub checkpoints : OfHolds c (λ setup n every. HasTrueMoments setup n every c.desk c.desk_after)
  pub quiet_hold : OfHolds c (λ setup n every. (f : HoldFault) → IsEarly f → OfFile c (λ file.
      RefusesHold setup n every (Some file) f → Elapses c.desk c.desk_after (λ image text. c.desk.may_leave image)))
  pub telling : GivesNothingToWrite c.words c.source.left → Elapses c.desk c.desk_after (IsTellingAsked c)

-- What is so where a genebank is refused.
pub record IsSpared (c : Call) (f : BankFault) : Type 0 where
  pub unwritten : OfFile c (λ file. ReadsTheSame c)
  pub quiet : OfFile c (λ file. Elapses c.desk c.desk_after (λ image text. c.desk.may_leave image))
  pub told : OfRuns c (λ setup n. OfFile c (λ file. IsToldAtRefusal (run_groups setup n) c.desk.told c.desk_after.told f))

-- ---- the promises on moments

module _ (c : Call) (law : IsLawful c.desk) (past : HasMoments c) where
  abbrev LeavesAsBefore : Type 0
  LeavesAsBefore = Elapses c.desk c.desk_after (λ image text. c.desk.may_leave image)

  -- each moment has P, if the first and each further one has
  at_each : (P : List ℕ → List ℕ → Type 0) → ((image text : List ℕ) → IsNow c.desk image text → P image text)
      → Elapses c.desk c.desk_after P → AtEachMoment c P
  at_each P now time =
      all_are_true c.desk c.desk_after P time (λ image text first. now image text (law.only_now image text first))

  is_quiet : LeavesAsBefore → IsQuiet c
  is_quiet time = at_each (λ image text. c.desk.may_leave image) (λ image text now. now.0) time

  quiet_of_file : OfFile c (λ file. LeavesAsBefore) → OfFile c (λ file. IsQuiet c)
  quiet_of_file = each_file c.desk.reads (λ file. LeavesAsBefore) (λ file. IsQuiet c) (λ file is time. is_quiet time)

  pub leaves_true_genebank : LeavesTrueGenebank c
  leaves_true_genebank = record {
    crash = λ setup n asked disk.
        at_each (IsTrueMoment setup n c.desk.told) (now_is_true setup n c.desk disk) (past.crash setup n asked disk);
  }

  pub keeps_lines_up : KeepsLinesUp c
  keeps_lines_up = record {
    kept_up = λ setup n asked. all_in_step setup n c.desk c.desk_after law.only_now (past.kept_up setup n asked);
  }

  pub comes_to_same_end : OnDone c.status (OfHolds c (λ setup n every. Resumes setup n every c.desk c.desk_after))
      → OnDone c.status (OfHolds c (λ setup n every. LeavesLast setup n every c.desk c.desk_after))
      → OnDone c.status (OfHolds c (λ setup n every. OfFile c (λ file. CanHold setup n every (Some file)))) → ComesToSameEnd c
  comes_to_same_end resumed last small = record {
    resumed = resumed;
    last = last;
    small = small;
    checkpoints = λ setup n every asked.
        each_file c.desk.reads
        (λ file. (start : Option ℕ) → HoldsSerial setup start file
        → Elapses c.desk c.desk_after (IsHeldOn setup n every start c.desk.may_leave file c.desk.told))
        (λ file. (start : Option ℕ) → HoldsSerial setup start file → AtEachMoment c (IsHeldOn setup n every start c.desk.may_leave file c.desk.told))
        (λ file is time start read.
        at_each (IsHeldOn setup n every start c.desk.may_leave file c.desk.told)
        (λ image text now. inl ((image, inl now.0, λ r. (λ says. says, λ says. says)), now.1)) (time start read))
        (past.checkpoints setup n every asked);
  }

  -- each moment of a call that writes nothing
  pub telling_at_each : GivesNothingToWrite c.words c.source.left → AtEachMoment c (IsTellingAsked c)
  telling_at_each nothing = at_each (IsTellingAsked c) (λ image text now. (now.0, inl now.1)) (past.telling nothing)

  pub spares_refused_file : OnBankRefused c.status (IsSpared c) → OnHoldRefused c.status (IsLeftAlone c.desk c.desk_after)
      → (GivesNothingToWrite c.words c.source.left → Untouched c.desk c.desk_after) → SparesRefusedFile c
  spares_refused_file bank hold untouched = record {
    untouched = untouched;
    unwritten = each_refusal c.status (IsSpared c) (λ f. OfFile c (λ file. ReadsTheSame c)) (λ f is. is.unwritten) bank;
    quiet = each_refusal c.status (IsSpared c) (λ f. OfFile c (λ file. IsQuiet c)) (λ f is. quiet_of_file is.quiet) bank;
    quiet_run = λ setup n asked.
        each_file c.desk.reads (λ file. (f : BankFault) → RefusesRun setup n file f → LeavesAsBefore)
        (λ file. (f : BankFault) → RefusesRun setup n file f → IsQuiet c) (λ file is time f r. is_quiet (time f r))
        (past.quiet_run setup n asked);
    told_at_refusal = each_refusal c.status (IsSpared c)
        (λ f. OfRuns c (λ setup n. OfFile c (λ file. IsToldAtRefusal (run_groups setup n) c.desk.told c.desk_after.told f)))
        (λ f is. is.told) bank;
    hold_early = each_early c.status (IsLeftAlone c.desk c.desk_after)
        (TellsNothing c × OfFile c (λ file. ReadsTheSame c)) (λ alone. (alone.told, alone.reads)) hold;
    hold_quiet = each_early c.status (IsLeftAlone c.desk c.desk_after) (OfFile c (λ file. IsQuiet c))
        (λ alone. quiet_of_file alone.quiet) hold;
    quiet_hold = λ setup n every asked f early.
        each_file c.desk.reads (λ file. RefusesHold setup n every (Some file) f → LeavesAsBefore)
        (λ file. RefusesHold setup n every (Some file) f → IsQuiet c) (λ file is time r. is_quiet (time r))
        (past.quiet_hold setup n every asked f early);
  }

-- ---- where a task was begun

module _ (c : Call) (t : Task) (is : IsTaskOf c.words c.source.left t) where
  pub task_moments : HasMomentsFor t c.desk c.desk_after → HasMoments c
  task_moments had = record {
    crash = λ setup n asked. of-run-asked c.words c.source.left t setup n
        (λ (s : SetupFields) (m : ℕ). DiskIsOfHistory s c.desk.reads c.desk.may_leave
        → Elapses c.desk c.desk_after (IsTrueMoment s m c.desk.told)) is asked had.crash;
    kept_up = λ setup n asked. of-run-asked c.words c.source.left t setup n
        (λ (s : SetupFields) (m : ℕ). KeepsUp s m c.desk c.desk_after) is asked had.kept_up;
    quiet_run = λ setup n asked. of-run-asked c.words c.source.left t setup n
        (λ (s : SetupFields) (m : ℕ). OfFile c (λ file. (f : BankFault) → RefusesRun s m file f
        → Elapses c.desk c.desk_after (λ image text. c.desk.may_leave image))) is asked had.quiet_run;
    checkpoints = λ setup n every asked. of-hold-asked c.words c.source.left t setup n every
        (λ (s : SetupFields) (m k : ℕ). HasTrueMoments s m k c.desk c.desk_after) is asked had.checkpoints;
    quiet_hold = λ setup n every asked. of-hold-asked c.words c.source.left t setup n every
        (λ (s : SetupFields) (m k : ℕ). (f : HoldFault) → IsEarly f → OfFile c (λ file. RefusesHold s m k (Some file) f
        → Elapses c.desk c.desk_after (λ image text. c.desk.may_leave image))) is asked had.quiet_hold;
    telling = λ nothing. Elapses-weaker
        (λ image text m. (m.0, asked-text-or c.words c.source.left c.desk.reads _ _ t is m.1))
        (unless-writing-asked c.words c.source.left t (Elapses c.desk c.desk_after (IsTellingFor t c.desk)) is nothing had.telling);
  }

  -- only a task that writes does not leave the disk alone
  pub writes_if_asked : UnlessWriting t (Untouched c.desk c.desk_after) → GivesNothingToWrite c.words c.source.left
      → Untouched c.desk c.desk_after
  writes_if_asked untouched none = unless-writing-asked c.words c.source.left t (Untouched c.desk c.desk_after) is none untouched

  -- ---- and done

  run_told : (x : Task) → ForTextOf x c.desk.reads (λ text. Appended c.desk.told text c.desk_after.told)
      → OfRun x (λ setup n. Appended c.desk.told (run_text setup n) c.desk_after.told)
  run_told (task.Run setup n w) told = subst (λ (text : List ℕ). Appended c.desk.told text c.desk_after.told) told.1 told.2
  run_told x told = tt

  pub done_runs : IsDoneFor t c.desk c.desk_after → OfRuns c (λ setup n. Appended c.desk.told (run_text setup n) c.desk_after.told)
  done_runs done setup n asked = of-run-asked c.words c.source.left t setup n
      (λ (s : SetupFields) (m : ℕ). Appended c.desk.told (run_text s m) c.desk_after.told) is asked (run_told t done.told)

  pub done_begins : IsDoneFor t c.desk c.desk_after
      → OfRuns c (λ setup n. OfFile c (λ file. BeginsWith setup n file c.desk_after.reads c.desk_after.may_leave))
  done_begins done setup n asked = of-run-asked c.words c.source.left t setup n
      (λ (s : SetupFields) (m : ℕ). OfFile c (λ file. BeginsWith s m file c.desk_after.reads c.desk_after.may_leave))
      is asked done.begins

  pub done_resumes : IsDoneFor t c.desk c.desk_after → OfHolds c (λ setup n every. Resumes setup n every c.desk c.desk_after)
  done_resumes done setup n every asked = of-hold-asked c.words c.source.left t setup n every
      (λ (s : SetupFields) (m k : ℕ). Resumes s m k c.desk c.desk_after) is asked done.resumed

  pub done_last : IsDoneFor t c.desk c.desk_after → OfHolds c (λ setup n every. LeavesLast setup n every c.desk c.desk_after)
  done_last done setup n every asked = of-hold-asked c.words c.source.left t setup n every
      (λ (s : SetupFields) (m k : ℕ). LeavesLast s m k c.desk c.desk_after) is asked done.last

  pub done_small : IsDoneFor t c.desk c.desk_after
      → OfHolds c (λ setup n every. OfFile c (λ file. CanHold setup n every (Some file)))
  done_small done setup n every asked = of-hold-asked c.words c.source.left t setup n every
      (λ (s : SetupFields) (m k : ℕ). OfFile c (λ file. CanHold s m k (Some file))) is asked done.small

  -- ---- and stopped

  refusal_spares : (f : BankFault) → IsRefusedFor t c.desk c.desk_after f → IsSpared c f
  refusal_spares f refusal = record {
    unwritten = refusal.unwritten;
    quiet = refusal.quiet;
    told = λ setup n asked. subst
        (λ (x : Task). OfFile c (λ file. IsToldWhenRefused x c.desk.told c.desk_after.told f))
        (run-asked c.words c.source.left t setup n is asked).1 refusal.told;
  }

  pub stop_spares : (s : RunStop) → IfRefused s (IsRefusedFor t c.desk c.desk_after) → OnBankRefused (status_of s) (IsSpared c)
  stop_spares s refused = each_refusal (status_of s) (IsRefusedFor t c.desk c.desk_after) (IsSpared c) refusal_spares
      (bank_refused s (IsRefusedFor t c.desk c.desk_after) refused)

-- ---- where none was begun

module _ (c : Call) (none : (P : List ℕ → List ℕ → Type 0) → Elapses c.desk c.desk_after P) where
  pub no_moments : HasMoments c
  no_moments = record {
    crash = λ setup n asked disk. none (IsTrueMoment setup n c.desk.told);
    kept_up = λ setup n asked. for_file c.desk.reads _ (λ file is had has. none _);
    quiet_run = λ setup n asked. for_file c.desk.reads _ (λ file is f r. none _);
    checkpoints = λ setup n every asked. for_file c.desk.reads _ (λ file is start read. none _);
    telling = λ nothing. none _;
    quiet_hold = λ setup n every asked f early. for_file c.desk.reads _ (λ file is r. none _);
  }

-- an answer that has its cause is Done or want of memory, where all is as it should be
has_its_cause : (c : Call) → Cause c.words c.source.left c.desk.reads (0 < c.source_after.faults) (0 < c.desk_after.disk_faults)
    (0 < c.desk_after.tell_faults) c.status → HasItsCause c
has_its_cause c cause = record {
  cause = cause;
  complete = λ order should none. complete-by c.words c.source.left c.desk.reads c.desk.may_leave order should.bytes should.text
      c.source_after.faults c.desk_after.disk_faults c.desk_after.tell_faults c.status cause should.asked should.given should.accepted
      should.run should.hold none.source none.desk.disk none.desk.tell;
}

-- ---- each promise of a call that is done

module _ (s : Status) (done : s ≡ status.Done) where
  at_done : (P : Type 0) → P → OnDone s P
  at_done P p = subst (λ (x : Status). OnDone x P) (sym done) p

  done_unstopped : (P : Type 0) → OnStopped s P
  done_unstopped P = subst (λ (x : Status). OnStopped x P) (sym done) tt

  done_spares_bank : (P : BankFault → Type 0) → OnBankRefused s P
  done_spares_bank P = subst (λ (x : Status). OnBankRefused x P) (sym done) tt

  done_spares_hold : (P : Type 0) → OnHoldRefused s P
  done_spares_hold P = subst (λ (x : Status). OnHoldRefused x P) (sym done) tt

pub done-has-right-text : {c : Call} (t : Task) → c.status ≡ status.Done → IsTaskOf c.words c.source.left t
    → IsDoneFor t c.desk c.desk_after → HasRightText c
done-has-right-text {c} t ok is done = record {
  told = at_done c.status ok _ (done_runs c t is done);
  begins = at_done c.status ok _ (done_begins c t is done);
}

pub done-comes-to-same-end : {c : Call} (t : Task) → c.status ≡ status.Done → IsTaskOf c.words c.source.left t
    → IsDoneFor t c.desk c.desk_after → IsLawful c.desk → HasMomentsFor t c.desk c.desk_after → ComesToSameEnd c
done-comes-to-same-end {c} t ok is done law had = comes_to_same_end c law (task_moments c t is had)
    (at_done c.status ok _ (done_resumes c t is done)) (at_done c.status ok _ (done_last c t is done))
    (at_done c.status ok _ (done_small c t is done))

pub done-tells-what-is-asked : {c : Call} (t : Task) → c.status ≡ status.Done → IsTaskOf c.words c.source.left t
    → IsDoneFor t c.desk c.desk_after → TellsWhatIsAsked c
done-tells-what-is-asked {c} t ok is done = record {
  done = at_done c.status ok _ (asked-text c.words c.source.left c.desk.reads _ t is done.told);
}

pub done-has-its-cause : {c : Call} → c.status ≡ status.Done → HasItsCause c
done-has-its-cause {c} ok = record {
  cause = subst (Cause c.words c.source.left c.desk.reads (0 < c.source_after.faults) (0 < c.desk_after.disk_faults)
      (0 < c.desk_after.tell_faults)) (sym ok) tt;
  complete = λ order should none. inl ok;
}

pub done-tells-nothing-else : {c : Call} (t : Task) → c.status ≡ status.Done → IsTaskOf c.words c.source.left t
    → IsDoneFor t c.desk c.desk_after → IsLawful c.desk → HasMomentsFor t c.desk c.desk_after → TellsNothingElse c
done-tells-nothing-else {c} t ok is done law had = record {
  prefix = inr (asked-text c.words c.source.left c.desk.reads _ t is
      (done.told.0, done.told.1, all-is-some c.desk.told c.desk_after.told done.told.0 done.told.2));
  unfinished = done_unstopped c.status ok _;
  telling = telling_at_each c law (task_moments c t is had);
}

pub done-spares-refused-file : {c : Call} (t : Task) → c.status ≡ status.Done → IsTaskOf c.words c.source.left t
    → IsLawful c.desk → HasMomentsFor t c.desk c.desk_after → UnlessWriting t (Untouched c.desk c.desk_after)
    → SparesRefusedFile c
done-spares-refused-file {c} t ok is law had untouched = spares_refused_file c law (task_moments c t is had)
    (done_spares_bank c.status ok (IsSpared c)) (done_spares_hold c.status ok (IsLeftAlone c.desk c.desk_after))
    (writes_if_asked c t is untouched)

-- ---- of one at which its task stopped

module _ (s : Status) (r : RunStop) (stops : s ≡ status_of r) where
  stop_undone : (P : Type 0) → OnDone s P
  stop_undone P = subst (λ (x : Status). OnDone x P) (sym stops) (not_done r P)

pub stop-has-right-text : {c : Call} (s : RunStop) → c.status ≡ status_of s → HasRightText c
stop-has-right-text {c} s stops = record {
  told = stop_undone c.status s stops _;
  begins = stop_undone c.status s stops _;
}

pub stop-comes-to-same-end : {c : Call} (t : Task) (s : RunStop) → c.status ≡ status_of s → IsTaskOf c.words c.source.left t
    → IsLawful c.desk → HasMomentsFor t c.desk c.desk_after → ComesToSameEnd c
stop-comes-to-same-end {c} t s stops is law had = comes_to_same_end c law (task_moments c t is had)
    (stop_undone c.status s stops _) (stop_undone c.status s stops _) (stop_undone c.status s stops _)

pub stop-tells-what-is-asked : {c : Call} (s : RunStop) → c.status ≡ status_of s → TellsWhatIsAsked c
stop-tells-what-is-asked {c} s stops = record { done = stop_undone c.status s stops _ }

pub stop-has-its-cause : {c : Call} (t : Task) (s : RunStop) → c.status ≡ status_of s → IsTaskOf c.words c.source.left t
    → OfText t (c.desk_after.disk_faults ≡ 0) → IsStoppedFor t c.desk c.desk_after s → CountsStop s c.desk_after → HasItsCause c
stop-has-its-cause {c} t s stops is disk stopped counts =
    has_its_cause c (subst (Cause c.words c.source.left c.desk.reads (0 < c.source_after.faults) (0 < c.desk_after.disk_faults)
    (0 < c.desk_after.tell_faults)) (sym stops)
    (stop-has-cause c.words c.source.left (0 < c.source_after.faults) t c.desk c.desk_after s is disk stopped counts))

pub stop-tells-nothing-else : {c : Call} (t : Task) (s : RunStop) → c.status ≡ status_of s → IsTaskOf c.words c.source.left t
    → IsStoppedFor t c.desk c.desk_after s → IsLawful c.desk → HasMomentsFor t c.desk c.desk_after → TellsNothingElse c
stop-tells-nothing-else {c} t s stops is stopped law had = record {
  prefix = asked-text-or c.words c.source.left c.desk.reads _ _ t is stopped.partly;
  unfinished = subst (λ (x : Status). OnStopped x (TellsNothing c ⊎ TellsAsked c AppendedLess)) (sym stops)
      (by_status s _ (still_unless s _ _ (asked-text-or c.words c.source.left c.desk.reads _ _ t is) stopped.unfinished));
  telling = telling_at_each c law (task_moments c t is had);
}

pub stop-spares-refused-file : {c : Call} (t : Task) (s : RunStop) → c.status ≡ status_of s → IsTaskOf c.words c.source.left t
    → IsStoppedFor t c.desk c.desk_after s → IsLawful c.desk → HasMomentsFor t c.desk c.desk_after
    → UnlessWriting t (Untouched c.desk c.desk_after) → SparesRefusedFile c
stop-spares-refused-file {c} t s stops is stopped law had untouched = spares_refused_file c law (task_moments c t is had)
    (subst (λ (x : Status). OnBankRefused x (IsSpared c)) (sym stops) (stop_spares c t is s stopped.refused))
    (subst (λ (x : Status). OnHoldRefused x (IsLeftAlone c.desk c.desk_after)) (sym stops)
    (hold_refused s t c.desk c.desk_after stopped.hold_refused))
    (writes_if_asked c t is untouched)

-- ---- of one that began no task

abbrev pub IsUncalled : Call → Type 1
IsUncalled c = (P : List ℕ → List ℕ → Type 0) → Elapses c.desk c.desk_after P

abbrev pub IsAsking : Call → Type 0
IsAsking c = AskingCause c.words c.source.left (0 < c.source_after.faults) c.status

asking_undone : (c : Call) → IsAsking c → (P : Type 0) → OnDone c.status P
asking_undone c cause P = asking_not_done c.words c.source.left (0 < c.source_after.faults) c.status P cause

pub asking-has-right-text : {c : Call} → IsAsking c → HasRightText c
asking-has-right-text {c} cause = record { told = asking_undone c cause _; begins = asking_undone c cause _ }

pub asking-comes-to-same-end : {c : Call} → IsAsking c → IsLawful c.desk → IsUncalled c → ComesToSameEnd c
asking-comes-to-same-end {c} cause law none = comes_to_same_end c law (no_moments c none) (asking_undone c cause _) (asking_undone c cause _)
    (asking_undone c cause _)

pub asking-tells-what-is-asked : {c : Call} → IsAsking c → TellsWhatIsAsked c
asking-tells-what-is-asked {c} cause = record { done = asking_undone c cause _ }

pub asking-has-its-cause : {c : Call} → IsAsking c → HasItsCause c
asking-has-its-cause {c} cause = has_its_cause c (asking-has-cause c.words c.source.left c.desk.reads (0 < c.source_after.faults)
    (0 < c.desk_after.disk_faults) (0 < c.desk_after.tell_faults) c.status cause)

pub asking-tells-nothing-else : {c : Call} → c.desk_after.told ≡ c.desk.told → IsLawful c.desk → IsUncalled c → TellsNothingElse c
asking-tells-nothing-else {c} same law none = record {
  prefix = inl same;
  unfinished = where_stopped c.status _ (inl same);
  telling = telling_at_each c law (no_moments c none);
}

pub asking-spares-refused-file : {c : Call} → IsAsking c → IsLawful c.desk → IsUncalled c → Untouched c.desk c.desk_after
    → SparesRefusedFile c
asking-spares-refused-file {c} cause law none untouched = spares_refused_file c law (no_moments c none)
    (asking_spares_bank c.words c.source.left (0 < c.source_after.faults) c.status (IsSpared c) cause)
    (asking_spares_hold c.words c.source.left (0 < c.source_after.faults) c.status (IsLeftAlone c.desk c.desk_after) cause)
    (λ none-asked. untouched)
