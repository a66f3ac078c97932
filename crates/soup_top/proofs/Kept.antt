-- A run from the time when its bank was attached, and what that makes of its task.
use Rattle.std.proofs.Common.{◌≡◌, refl, sym, ap₂, subst, arith, ℕ, ◌≤◌, List, [], ◌++◌, append-nil, length, take, Result, Ok, Err, OnOk}
use Rattle.std.specs.Prelude.{IfErr, IfSome}
use Rattle.std.proofs.lemmas.Result.{IfErr-weaker}
use Rattle.tierra_model.specs.declared.limits.TheConstants.{MOST_QUANTA}
use Rattle.tierra_model.specs.Groups.{GroupFields}
use Rattle.tierra_model.specs.Setups.{SetupFields}
use Rattle.bank_recover.specs.Bank.{title}
use Rattle.bank_recover.specs.declared.faults.BankFault.{BankFault}
use Rattle.file_journal.specs.Files.{IsFresh}
use Rattle.bank_journal.specs.Bank.{Attaches, BankState, IsAtRest, SaysAsBefore}
use Rattle.bank_journal.specs.Steps.{IfTold, IsUnwritten}
use Rattle.desk_io.specs.Desk.{Appended, AppendedSome, DeskState, Elapses, HasNoFault, KeepsDisk, Tells, TellsText, UsesDisk}
use Rattle.desk_io.proofs.Telling.{ToldSoFar, all_told, lines_alone, none_told, piece_begun, piece_told}
use Rattle.report_text.specs.Bank.{saved_lines}
use Rattle.soup_top.specs.declared.asking.Task.TheVariants as task
use Rattle.soup_top.specs.declared.stop.RunStop.{RunStop}
use Rattle.soup_top.specs.declared.stop.RunStop.TheVariants as stop
use Rattle.soup_top.specs.Ending.{HasMomentsFor, IsDoneFor, IsStoppedFor}
use Rattle.soup_top.specs.Genebank.{IsFirstToDiffer, RefusesRun, digest_of}
use Rattle.soup_top.specs.Handing.{HasStopped, TookAll}
use Rattle.soup_top.specs.Keeping.{Completes, IsKeeping}
use Rattle.soup_top.specs.Sources.{run_groups, run_report, run_text}
use Rattle.soup_top.specs.Stops.{IfDiffers, IfHoldRefused, TellsUnlessStopped}
use Rattle.soup_top.proofs.Ending.{run_done, run_stopped}
use Rattle.soup_top.proofs.RunAnswers.{attach-time, differs_of_bank, kept-time, run-begins, run-keeps-up, run-quiet, run-refused, run-told, run-unfinished}
use Rattle.soup_top.proofs.RunMoments.{Completes-untouched, lines-time, report-time, report_has_bytes}
use Rattle.soup_top.proofs.SoFar.{all_fit, all_lines_told, all_taken, none_differs_yet}
use Rattle.soup_top.proofs.Taking.{times_then}
use Rattle.soup_top.proofs.Unfinished.{unless_telling}

-- what it leaves
pub record Keeps (bank : BankState) (setup : SetupFields) (n : ℕ) (old new : DeskState) (r : Result (Unit {0}) RunStop) : Type 0 where
  pub completed : OnOk r (Completes bank (run_groups setup n) old new)
  pub differs : IfErr r (λ s. IfDiffers s (λ k. IsFirstToDiffer bank.groups (run_groups setup n) k
      × Appended old.told (saved_lines (take k (run_groups setup n))) new.told))
  pub kept : (k : ℕ) → IsFirstToDiffer bank.groups (run_groups setup n) k → KeepsDisk old new
  pub moments : IfSome old.reads (λ file. Elapses old new (IsKeeping bank.digest bank.groups (run_groups setup n) (run_text setup n) old.told))
  pub told : TellsUnlessStopped old new (run_text setup n) r

module _ (bank : BankState) (setup : SetupFields) (n : ℕ) where
  abbrev groups : List GroupFields
  groups = run_groups setup n

  abbrev lines : List ℕ
  lines = saved_lines groups

  abbrev report : List ℕ
  report = run_report setup n

  -- something stopped it before the report
  pub stop_keeps : (old new : DeskState) (s : RunStop) → HasStopped bank groups old new s → Keeps bank setup n old new (Err s)
  stop_keeps old new s stopped = record {
    completed = tt;
    differs = stopped.differs;
    kept = stopped.kept;
    moments = lines-time old new bank.digest bank.groups groups old.told report stopped.time;
    told = record {
      told = record { all = tt; partly = piece_begun lines report refl (none_told (lines ++ report) old.told) stopped.partly };
      unfinished = unless_telling s _ (lines_alone old.told new.told lines report (report_has_bytes setup n) stopped.partly);
    };
  }

  -- or the report was told after all groups were taken
  module _ (old mid new : DeskState) (took : TookAll bank groups old mid) {T E : Type 0} (r : Result T E) (tells : Tells mid new report r) where
    completes : Completes bank groups old mid
    completes =
        let all = took.1 in
        let rests = ap₂ (λ (d : List ℕ) (gs : List GroupFields). IfSome mid.reads (IsAtRest d gs)) all.digest (all_taken all.so_far refl) in
        record {
          fits = all_fit all.so_far refl;
          settled = all.attached.settled;
          at_rest = subst (λ (P : Type 0). P) rests all.attached.at_rest;
          still = all.still;
        }

    none_differs : (k : ℕ) → IsFirstToDiffer bank.groups groups k → KeepsDisk old new
    none_differs k differs = let later = none_differs_yet took.1.so_far k differs in absurd (omega (arith, later.0, later.2))

    lines_told : Appended old.told lines mid.told
    lines_told = all_lines_told took.1.so_far refl

    to_the_report : ToldSoFar (lines ++ report) report old.told mid.told
    to_the_report = piece_told lines report refl (none_told (lines ++ report) old.told) lines_told

    moments_to_the_end : IfSome old.reads (λ file. Elapses old new (IsKeeping bank.digest bank.groups groups (lines ++ report) old.told))
    moments_to_the_end =
        times_then old mid new (IsKeeping bank.digest bank.groups groups (lines ++ report) old.told) completes.still
        (lines-time old mid bank.digest bank.groups groups old.told report took.1.time)
        (report-time mid new bank.digest bank.groups groups old.told report completes.at_rest completes.settled.durable completes.fits lines_told tells)

    pub tell_fails : AppendedSome mid.told report new.told → Keeps bank setup n old new (Err stop.TellFault)
    tell_fails part = record {
      completed = tt;
      differs = tt;
      kept = none_differs;
      moments = moments_to_the_end;
      told = record {
        told = record { all = tt; partly = piece_begun report [] (sym (append-nil report)) to_the_report part };
        unfinished = tt;
      };
    }

    pub tell_ends : Appended mid.told report new.told → HasNoFault new → Keeps bank setup n old new (Ok tt)
    tell_ends all sound = record {
      completed = Completes-untouched bank groups old mid new completes tells.untouched sound;
      differs = tt;
      kept = none_differs;
      moments = moments_to_the_end;
      told = record {
        told = record {
          all = all_told (lines ++ report) old.told new.told (piece_told report [] (sym (append-nil report)) to_the_report all);
          partly = tt;
        };
        unfinished = tt;
      };
    }

-- ---- its task

module _ {setup : SetupFields} {n : ℕ} (w : ℕ) (few : n ≤ MOST_QUANTA) {old mid new : DeskState} {bank : BankState}
    (attached : Attaches (digest_of setup) old mid bank)
    (unwritten : IfSome old.reads (λ file. (IsFresh title file → ⊥) → IsUnwritten old mid))
    (quiet : IfSome old.reads (λ file. (IsFresh title file → ⊥) → UsesDisk old mid old.may_leave))
    (moments : UsesDisk old mid (IfTold old (SaysAsBefore (digest_of setup) old.may_leave)))
    {r : Result (Unit {0}) RunStop} (keeps : Keeps bank setup n mid new r) where
  told : TellsText old new (run_text setup n) r
  told = run-told r (run_text setup n) old mid new moments.told keeps.told.told

  -- a file that is refused is not written
  refused_is_quiet : IfSome old.reads (λ file. (f : BankFault) → RefusesRun setup n file f → Elapses old new (λ image text. old.may_leave image))
  refused_is_quiet = run-quiet setup n bank.groups old mid new attached.groups unwritten quiet keeps.kept

  pub kept_done : OnOk r (IsDoneFor (task.Run setup n w) old new)
  kept_done = run_done setup n w old new r told
      (run-begins r setup n bank old mid new attached.digest_is attached.groups attached.still keeps.completed)

  pub kept_stopped : IfErr r (IsStoppedFor (task.Run setup n w) old new)
  kept_stopped = run_stopped setup n w old new r told
      (run-unfinished r (run_text setup n) old.told mid.told new.told moments.told keeps.told.unfinished)
      (run-refused r setup n bank.groups old mid new moments.told attached.groups unwritten keeps.kept keeps.differs)
      (IfErr-weaker r _ (λ s. IfHoldRefused s (λ f. ⊥)) (λ s d. differs_of_bank s _ d) keeps.differs) refused_is_quiet

  pub kept_moments : HasMomentsFor (task.Run setup n w) old new
  kept_moments = record {
    crash = kept-time old mid new setup n bank.groups (run_text setup n) bank.digest few attached.digest_is moments.told
        attached.still attached.groups (attach-time old mid setup moments) keeps.moments;
    kept_up = run-keeps-up old mid new setup n bank.groups bank.digest attached.digest_is moments.told attached.still attached.groups moments
        keeps.moments;
    quiet_run = refused_is_quiet;
    checkpoints = tt;
    quiet_hold = tt;
    telling = tt;
  }
