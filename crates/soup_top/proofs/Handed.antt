-- One group more is taken to the bank of a run, and what comes of all of them.
use Rattle.std.proofs.Common.{◌≡◌, ◌∙◌, refl, sym, ap, ap₂, subst, arith, ℕ, zero, suc, ◌+◌, ◌<◌, ◌≤◌, List, [], ◌∷◌, ◌++◌, length, length-append, take}
use Rattle.std.proofs.Common.{append-nil, Option, Some, None, Result, Ok, Err, OnOk}
use Rattle.std.specs.Prelude.{IfErr, IfSome, MatchOption, slice_get, unwrap_or}
use Rattle.std.proofs.lemmas.List.{drop_all}
use Rattle.std.proofs.lemmas.Option.{same_Some, slice_get_within}
use Rattle.tierra_model.specs.declared.limits.TheConstants.{MOST_QUANTA}
use Rattle.tierra_model.specs.Genebank.{bank, group_if_any, saved_in}
use Rattle.tierra_model.specs.declared.genebank.Saved.{Saved}
use Rattle.tierra_model.specs.Groups.{GroupFields}
use Rattle.tierra_model.specs.Serial.{serial}
use Rattle.tierra_model.specs.Setups.{SetupFields}
use Rattle.bank_recover.specs.declared.faults.BankFault.TheVariants as fault
use Rattle.bank_journal.specs.Bank.{BankState, IsAtRest, IsAttached}
use Rattle.bank_journal.specs.Steps.{IsTold}
use Rattle.bank_journal.proofs.Times.{for_file, stays_then}
use Rattle.desk_io.specs.Desk.{Appended, AppendedSome, DeskState, Elapses, KeepsDisk, TellsText}
use Rattle.desk_io.proofs.Time.{Elapses-none, KeepsDisk-none, KeepsDisk-then}
use Rattle.report_text.specs.Bank.{saved_lines}
use Rattle.soup_top.specs.declared.stop.RunStop.{RunStop}
use Rattle.soup_top.specs.declared.stop.RunStop.TheVariants as stop
use Rattle.soup_top.specs.Genebank.{IsFirstToDiffer}
use Rattle.soup_top.specs.Handing.{HasStopped, HasTaken, number_of_stops}
use Rattle.soup_top.specs.Keeping.{Completes, DiffersAt, IsKeeping, IsTaking, Takes, group_lines}
use Rattle.soup_top.specs.Sources.{run_groups}
use Rattle.soup_top.specs.Stops.{CountsStop, CountsStops, IfDiffers}
use Rattle.soup_top.proofs.RunLines.{lines_so_far}
use Rattle.soup_top.proofs.SoFar.{all_fit, all_lines_told, all_taken, differs_first, has_as_many, keeps_time, next_partly_told, next_taken, none_differs_yet}
use Rattle.desk_io.proofs.Telling.{as_told, nothing_appended}

-- ---- how many groups a run has

bank-suc : (setup : SetupFields) (q : ℕ) → bank setup (suc q) ≡ bank setup q ++ group_if_any q (saved_in q (serial setup q))
unfolding bank
bank-suc setup q = refl

bank-zero : (setup : SetupFields) → bank setup zero ≡ []
unfolding bank
bank-zero setup = refl

at_most_one : (q : ℕ) (saved : List Saved) → length (group_if_any q saved) ≤ 1
at_most_one q [] = omega arith
at_most_one q (s ∷ saved) = omega arith

-- a quantum makes at most one group
bank-few : (setup : SetupFields) (n : ℕ) → length (bank setup n) ≤ n
bank-few setup zero = omega (arith, ap length (bank-zero setup))
bank-few setup (suc q) =
    let group = group_if_any q (saved_in q (serial setup q)) in
    omega (arith, ap length (bank-suc setup q), length-append (bank setup q) group, bank-few setup q, at_most_one q (saved_in q (serial setup q)))

pub run-few : (setup : SetupFields) (n : ℕ) → n ≤ MOST_QUANTA → length (run_groups setup n) ≤ 4000001
run-few setup n few = omega (arith, bank-few setup (n + 1), few)

-- ---- one group more

differs_weaker : (s : RunStop) (P Q : ℕ → Type 0) → ((k : ℕ) → P k → Q k) → IfDiffers s P → IfDiffers s Q
differs_weaker (stop.Refused (fault.Differs k)) P Q weaker p = weaker k p
differs_weaker (stop.Refused _) P Q weaker p = p
differs_weaker _ P Q weaker p = p

-- the bank that is there
pub that_bank : (P : BankState → Type 0) (o : Option BankState) (b : BankState) → (x : BankState) × (o ≡ Some x) × P x → o ≡ Some b → P b
that_bank P o b there is = subst P (same_Some there.0 b (sym there.1 ∙ is)) there.2

module _ {first : BankState} {run : List GroupFields} {old mid : DeskState} {k : ℕ} {b : BankState}
    (so_far : HasTaken first run old mid k b) where
  -- it is of the groups that were there as long as none of those differs
  left_alone : (j : ℕ) → IsFirstToDiffer first.groups run j → k < length b.groups × KeepsDisk old mid
  left_alone j differs =
      let later = none_differs_yet so_far.so_far j differs in
      (has_as_many so_far.so_far k (omega (arith, later.0, later.1)), so_far.kept (omega (arith, later.0, later.1)))

  -- nothing failed, and so want of memory may stop it
  pub want_stops : HasStopped first run old mid stop.OutOfMemory
  want_stops = record {
    differs = tt;
    kept = λ j differs. (left_alone j differs).1;
    time = so_far.time;
    partly = as_told (lines_so_far run k old.told mid.told so_far.so_far.told);
    counts = so_far.attached.settled.sound;
  }

  module _ {g : GroupFields} (at : slice_get run k ≡ Some g) (new : DeskState) (kept : k < length b.groups → KeepsDisk mid new)
      (moments : IfSome mid.reads (λ file. Elapses mid new (IsTaking b.digest b.groups k g mid.told))) where
    time_on : IfSome old.reads (λ file. Elapses old new (IsKeeping first.digest first.groups run (saved_lines run) old.told))
    time_on = keeps_time so_far.so_far at old mid new first.digest b.digest so_far.digest so_far.still so_far.time moments

    pub next_has_taken : (now : BankState) → Takes b k g mid new now → Appended mid.told (group_lines g) new.told → HasTaken first run old new (k + 1) now
    next_has_taken now takes lines = record {
      digest = takes.digest ∙ so_far.digest;
      inside = omega (arith, slice_get_within run k g at);
      so_far = next_taken so_far.so_far at now.groups new.told takes.taken lines;
      attached = takes.attached;
      still = stays_then old.reads mid.reads new.reads so_far.still takes.still;
      kept = λ within. KeepsDisk-then old mid new (so_far.kept (omega (arith, within))) (kept (has_as_many so_far.so_far k (omega (arith, within))));
      time = time_on;
    }

    pub next_has_stopped : (cause : RunStop) → IfDiffers cause (λ j. (j ≡ k) × DiffersAt b.groups k g × (new.told ≡ mid.told))
        → AppendedSome mid.told (group_lines g) new.told → CountsStop cause new → HasStopped first run old new cause
    next_has_stopped cause differs partly counts = record {
      differs = differs_weaker cause (λ (j : ℕ). (j ≡ k) × DiffersAt b.groups k g × (new.told ≡ mid.told))
          (λ (j : ℕ). IsFirstToDiffer first.groups run j × Appended old.told (saved_lines (take j run)) new.told)
          (λ j p.
          let one = differs_first so_far.so_far at p.1 in
          rw p.0 (one.2, rw p.2 so_far.so_far.told)) differs;
      kept = λ j first_is. let before = left_alone j first_is in KeepsDisk-then old mid new before.1 (kept before.0);
      time = time_on;
      partly = next_partly_told so_far.so_far at new.told partly;
      counts = counts;
    }

-- ---- at the start

stays_told : (o : Option (List ℕ)) → IfSome o (λ file. IsTold o)
stays_told None = tt
stays_told (Some file) = tt

pub took_none : (first : BankState) (run : List GroupFields) (old : DeskState) → IsAttached first old → HasTaken first run old old 0 first
took_none first run old attached = record {
  digest = refl;
  inside = omega arith;
  so_far = record {
    groups_are = sym (ap (λ (rest : List GroupFields). first.groups ++ rest) (drop_all (length first.groups) (take 0 run) (omega arith))
        ∙ append-nil first.groups);
    fits = tt;
    told = nothing_appended old.told;
  };
  attached = attached;
  still = stays_told old.reads;
  kept = λ h. KeepsDisk-none old;
  time = for_file old.reads (λ (file : List ℕ). Elapses old old (IsKeeping first.digest first.groups run (saved_lines run) old.told))
      (λ file is. Elapses-none old (IsKeeping first.digest first.groups run (saved_lines run) old.told));
}

-- ---- at the end

module _ (Q : BankState → Type 0) (S : RunStop → Type 0) where
  -- what stopped it, or else want of memory
  pub stopped_as : (bank : Option BankState) (o : Option RunStop) → ((b : BankState) → Q b → S stop.OutOfMemory)
      → MatchOption o ((b : BankState) × (bank ≡ Some b) × Q b) S → S (unwrap_or o stop.OutOfMemory)
  stopped_as bank None want way = want way.0 way.2
  stopped_as bank (Some cause) want way = way

  -- nothing did
  pub none_stopped : (bank : Option BankState) (o : Option RunStop) → MatchOption o ((b : BankState) × (bank ≡ Some b) × Q b) S
      → number_of_stops o ≡ 0 → (b : BankState) × Q b
  none_stopped bank None way none = (way.0, way.2)
  none_stopped bank (Some cause) way none = absurd (omega (arith, none))
