-- How a run and a run with checkpoints end, as their tasks end.
use Rattle.std.proofs.Common.{◌≡◌, inl, inr, refl, subst, ℕ, List, Option, Result, Ok, Err, IfErr, OnOk}
use Rattle.std.specs.Prelude.{IfSome, Some, ◌⊎◌}
use Rattle.bank_journal.proofs.Times.{at_file, each_file}
use Rattle.bank_recover.specs.declared.faults.BankFault.{BankFault}
use Rattle.desk_io.specs.Desk.{AppendedSome, DeskState, Elapses, TellsText}
use Rattle.bank_journal.specs.Steps.{IsUnwritten}
use Rattle.soup_checkpoint.specs.declared.faults.HoldFault.{HoldFault}
use Rattle.soup_hold.specs.Ending.{IsStopped}
use Rattle.desk_io.specs.Told.{AppendedLess}
use Rattle.soup_hold.specs.Holding.{IsEarly, RefusesHold}
use Rattle.soup_hold.specs.declared.stop.HoldStop.{HoldStop}
use Rattle.soup_hold.specs.declared.stop.HoldStop.TheVariants as hold
use Rattle.tierra_model.specs.Setups.{SetupFields}
use Rattle.soup_top.specs.declared.asking.Task.TheVariants as task
use Rattle.soup_top.specs.declared.stop.RunStop.{RunStop}
use Rattle.soup_top.specs.declared.stop.RunStop.TheVariants as stop
use Rattle.soup_top.specs.Checkpoints.{IsLeftAlone}
use Rattle.soup_top.specs.Ending.{IsDoneFor, IsHoldRefusedFor, IsRefusedFor, IsStoppedFor}
use Rattle.soup_top.specs.Genebank.{BeginsWith, RefusesRun}
use Rattle.soup_top.specs.Keeping.{IsToldAtRefusal}
use Rattle.soup_top.specs.Sources.{run_groups, run_text}
use Rattle.soup_top.specs.Stops.{IfHoldRefused, IfRefused, UnlessTelling, stop_by}
use Rattle.soup_top.specs.Tasks.{ForTextOf}
use Rattle.soup_top.proofs.RunAnswers.{RunRefusal}
use Rattle.soup_top.proofs.Unfinished.{still_unless}

-- ---- a run

module _ (setup : SetupFields) (n w : ℕ) (old new : DeskState) where
  abbrev Quiet : Type 0
  Quiet = Elapses old new (λ image text. old.may_leave image)

  run_refusal : (f : BankFault) → IfSome old.reads (λ file. (x : BankFault) → RefusesRun setup n file x → Quiet) → RunRefusal setup n old new f
      → IsRefusedFor (task.Run setup n w) old new f
  run_refusal f quiet refusal =
      let Refusal : List ℕ → Type 0 = λ file.
      RefusesRun setup n file f × (new.reads ≡ old.reads) × IsToldAtRefusal (run_groups setup n) old.told new.told f in
      record {
        reason = each_file old.reads Refusal (λ file. RefusesRun setup n file f) (λ file is r. r.0) refusal;
        unwritten = each_file old.reads Refusal (λ file. new.reads ≡ old.reads) (λ file is r. r.1) refusal;
        quiet = each_file old.reads Refusal (λ file. Quiet)
            (λ file is r. at_file old.reads (λ (x : List ℕ). (y : BankFault) → RefusesRun setup n x y → Quiet) file is quiet f r.0) refusal;
        told = each_file old.reads Refusal (λ file. IsToldAtRefusal (run_groups setup n) old.told new.told f) (λ file is r. r.2) refusal;
      }

  run_refused : (s : RunStop) → IfSome old.reads (λ file. (x : BankFault) → RefusesRun setup n file x → Quiet)
      → IfRefused s (RunRefusal setup n old new) → IfRefused s (IsRefusedFor (task.Run setup n w) old new)
  run_refused (stop.Refused f) quiet refusal = run_refusal f quiet refusal
  run_refused (stop.HoldRefused f) quiet refusal = tt
  run_refused stop.DiskFault quiet refusal = tt
  run_refused stop.TellFault quiet refusal = tt
  run_refused stop.OutOfMemory quiet refusal = tt

  run_holds_none : (s : RunStop) → IfHoldRefused s (λ f. ⊥) → IfHoldRefused s (IsHoldRefusedFor (task.Run setup n w) old new)
  run_holds_none (stop.HoldRefused f) none = absurd none
  run_holds_none (stop.Refused f) none = tt
  run_holds_none stop.DiskFault none = tt
  run_holds_none stop.TellFault none = tt
  run_holds_none stop.OutOfMemory none = tt

  run_partly : (new.told ≡ old.told) ⊎ AppendedSome old.told (run_text setup n) new.told
      → (new.told ≡ old.told) ⊎ ForTextOf (task.Run setup n w) old.reads (λ text. AppendedSome old.told text new.told)
  run_partly (inl same) = inl same
  run_partly (inr some) = inr (run_text setup n, refl, some)

  pub run_stops : (s : RunStop) → (new.told ≡ old.told) ⊎ AppendedSome old.told (run_text setup n) new.told
      → UnlessTelling s (AppendedLess old.told (run_text setup n) new.told) → IfRefused s (RunRefusal setup n old new)
      → IfHoldRefused s (λ f. ⊥) → IfSome old.reads (λ file. (x : BankFault) → RefusesRun setup n file x → Quiet)
      → IsStoppedFor (task.Run setup n w) old new s
  run_stops s partly less refusal none quiet = record {
    partly = run_partly partly;
    unfinished = still_unless s _ _ (λ part. inr (run_text setup n, refl, part)) less;
    refused = run_refused s quiet refusal;
    hold_refused = run_holds_none s none;
  }

  pub run_stopped : (r : Result (Unit {0}) RunStop) → TellsText old new (run_text setup n) r
      → IfErr r (λ s. UnlessTelling s (AppendedLess old.told (run_text setup n) new.told)) → IfErr r (λ s. IfRefused s (RunRefusal setup n old new))
      → IfErr r (λ s. IfHoldRefused s (λ f. ⊥)) → IfSome old.reads (λ file. (x : BankFault) → RefusesRun setup n file x → Quiet)
      → IfErr r (IsStoppedFor (task.Run setup n w) old new)
  run_stopped (Ok x) tells less refusal none quiet = tt
  run_stopped (Err s) tells less refusal none quiet =
      run_stops s (inr tells.partly) less refusal none quiet

  pub run_done : (r : Result (Unit {0}) RunStop) → TellsText old new (run_text setup n) r
      → OnOk r (IfSome old.reads (λ file. BeginsWith setup n file new.reads new.may_leave)) → OnOk r (IsDoneFor (task.Run setup n w) old new)
  run_done (Ok x) tells begins = record { told = (run_text setup n, refl, tells.all); begins = begins; small = tt; resumed = tt; last = tt }
  run_done (Err s) tells begins = tt

-- ---- a run with checkpoints

module _ (setup : SetupFields) (n every : ℕ) (old new : DeskState) where
  abbrev IsQuiet : Type 0
  IsQuiet = Elapses old new (λ image text. old.may_leave image)

  abbrev QuietAt : HoldFault → List ℕ → Type 0
  QuietAt f file = RefusesHold setup n every (Some file) f → IsQuiet

  left_alone : (f : HoldFault) → IsEarly f → new.told ≡ old.told → IfSome old.reads (λ file. IsUnwritten old new)
      → RefusesHold setup n every old.reads f → IfSome old.reads (QuietAt f) → IsLeftAlone old new
  left_alone f early told unwritten reason quiet = record {
    told = told;
    reads = each_file old.reads (λ (file : List ℕ). IsUnwritten old new) (λ file. new.reads ≡ old.reads) (λ file is u. u.reads) unwritten;
    quiet = each_file old.reads (QuietAt f) (λ file. IsQuiet)
        (λ file is q. q (subst (λ (o : Option (List ℕ)). RefusesHold setup n every o f) is reason)) quiet;
  }

  pub hold_stops : (s : HoldStop) → IsStopped setup n every old new s
      → ((f : HoldFault) → IsEarly f → IfSome old.reads (QuietAt f)) → IsStoppedFor (task.Hold setup n every) old new (stop_by s)
  hold_stops (hold.Refused f) x quiet = record {
    partly = x.partly;
    unfinished = x.unfinished;
    refused = tt;
    hold_refused = record {
      reason = x.refused.reason;
      early = λ early. left_alone f early (x.refused.untold early) (x.refused.unwritten early) x.refused.reason (quiet f early);
    };
  }
  hold_stops hold.DiskFault x quiet = record { partly = x.partly; unfinished = x.unfinished; refused = tt; hold_refused = tt }
  hold_stops hold.TellFault x quiet = record { partly = x.partly; unfinished = x.unfinished; refused = tt; hold_refused = tt }
  hold_stops hold.OutOfMemory x quiet = record { partly = x.partly; unfinished = x.unfinished; refused = tt; hold_refused = tt }
