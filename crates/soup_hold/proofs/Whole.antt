-- A whole run, from its file to its report.
use Rattle.std.proofs.Common.{◌≡◌, ◌∙◌, inl, inr, refl, sym, ap, subst, arith, ℕ, zero, suc, ◌-◌, ◌<◌, ◌≤◌, List, ◌++◌, length, take, drop, append_assoc}
use Rattle.std.proofs.Common.{take-append-drop, Option}
use Rattle.std.proofs.Common.{Some, None, Result, Ok}
use Rattle.std.specs.Prelude.{IfSome, IsSomeAnd}
use Rattle.std.proofs.lemmas.List.{take_all}
use Rattle.desk_io.specs.Desk.{Appended, DeskState, Elapses, Tells, UsesDisk}
use Rattle.desk_io.specs.Told.{BeginsWithText}
use Rattle.desk_io.proofs.Telling.{told_after}
use Rattle.desk_io.proofs.Time.{Elapses-then, Elapses-weaker}
use Rattle.desk_io.proofs.Told.{follow_by, follow_longer}
use Rattle.file_journal.specs.Steps.{IfTold}
use Rattle.file_journal.proofs.Times.{at_file, each_file, for_file, told_now}
use Rattle.report_text.specs.Report.{report}
use Rattle.serial_slicer.specs.Onward.{after}
use Rattle.soup_checkpoint.specs.declared.faults.HoldFault.{HoldFault}
use Rattle.soup_checkpoint.specs.declared.owner.Owner.{Owner}
use Rattle.soup_checkpoint.specs.Hold.{owner_of}
use Rattle.soup_checkpoint.specs.Shelf.{Attaches, SaysAsBefore, SaysSame, ShelfState}
use Rattle.soup_hold.specs.Holding.{GoesOnFrom, HoldsAfter, HoldsState, IsFirst, IsHolding, IsHoldingOn, IsEarly, IsLast, IsTooLarge, RefusesHold}
use Rattle.soup_hold.specs.Steps.{Begins, HasHeld, IsLargeFirst}
use Rattle.soup_hold.specs.Text.{held_lines, held_quanta, hold_text, last_report, world_at}
use Rattle.soup_hold.proofs.Refusing.{one_first, one_held}
use Rattle.soup_hold.proofs.Steps.{begins_still}
use Rattle.tierra_model.specs.Serial.{start}
use Rattle.tierra_model.specs.Setups.{SetupFields}
use Rattle.tierra_model.specs.World.{World}
use Rattle.world_core.specs.Running.{WorldFields}
use Rattle.world_state.specs.Restoring.{AreBytesOf}
use Rattle.world_state.specs.StateBytes.{state_bytes}

-- ---- while the report is told

pub last_report_is : (first w : World) (n : ℕ) (text : List ℕ) → text ≡ report (after (n - w.quanta) w) → after (n - w.quanta) w ≡ world_at first n
    → text ≡ last_report first n
unfolding last_report
last_report_is first w n text is same = is ∙ ap report same

-- the report has bytes
pub report_has_bytes : (first : World) (n : ℕ) → 0 < length (last_report first n)
unfolding last_report
report_has_bytes first n = omega arith

module _ (owner : Owner) (first : World) (quanta : List ℕ) where
  abbrev Holding : List ℕ → List ℕ → Option (List ℕ) → List ℕ → List ℕ → Type 0
  Holding file = IsHolding owner (SaysSame owner file) first quanta

  -- while the lines are told, of a text that goes on with the report
  pub lines_time : (report : List ℕ) (old now : DeskState)
      → IfSome old.reads (λ file. Elapses old now (Holding file (held_lines quanta) old.told))
      → IfSome old.reads (λ file. Elapses old now (Holding file (held_lines quanta ++ report) old.told))
  lines_time report old now =
      each_file old.reads (λ (file : List ℕ). Elapses old now (Holding file (held_lines quanta) old.told))
      (λ (file : List ℕ). Elapses old now (Holding file (held_lines quanta ++ report) old.told))
      (λ file is time. Elapses-weaker (λ image text m. follow_longer m report) time)

  -- all lines were told
  pub all_lines : (before now : Option (List ℕ)) → Appended before (held_lines (take (length quanta) quanta)) now
      → Appended before (held_lines quanta) now
  all_lines before now told =
      let all : take (length quanta) quanta ≡ quanta = take_all (length quanta) quanta (omega arith) in
      subst (λ (l : List ℕ). Appended before (held_lines l) now) all told

  telling_time : {T E : Type 0} {result : Result T E} {old mid : DeskState} {s : ShelfState} {w : World} (new : DeskState)
      (report file : List ℕ) → old.reads ≡ Some file → HasHeld owner first quanta old mid (length quanta) s w
      → Tells mid new report result → Elapses mid new (Holding file (held_lines quanta ++ report) old.told)
  telling_time {old = old} {mid = mid} new report file is so_far tells =
      let now = at_file old.reads (λ (f : List ℕ). IsSomeAnd mid.reads (HoldsAfter owner (SaysSame owner f) first quanta (length quanta))) file is so_far.holds
      in
      let there = told_now mid.reads (HoldsAfter owner (SaysSame owner file) first quanta (length quanta)) now in
      Elapses-weaker (λ image text m.
      let image_is = at_file mid.reads (λ (f : List ℕ). (i : List ℕ) → mid.may_leave i → i ≡ f) there.0 there.1 so_far.attached.settled.durable image
      ((tells.untouched.crash image).0 m.0) in
      record {
        k = length quanta;
        inside = omega arith;
        has = subst (HoldsAfter owner (SaysSame owner file) first quanta (length quanta)) (sym image_is) there.2;
        piece = held_lines quanta ++ take m.1.1 report;
        told = told_after old.told mid.told (held_lines quanta) m.1.0 (take m.1.1 report) text (all_lines old.told mid.told so_far.told) m.1.2 m.1.3;
        kept_up =
            let all : take (length quanta) quanta ≡ quanta = take_all (length quanta) quanta (omega arith) in
            subst (λ (l : List ℕ). BeginsWithText (held_lines (take (length quanta - 1) quanta)) (held_lines l ++ take m.1.1 report)) all
            (begins_still quanta (length quanta - 1) (length quanta) (take m.1.1 report) (omega arith));
        covered = inl refl;
        part = (
          drop m.1.1 report,
          ap (λ (l : List ℕ). held_lines quanta ++ l) (sym (take-append-drop m.1.1 report))
              ∙ sym (append_assoc (held_lines quanta) (take m.1.1 report) (drop m.1.1 report)),
        );
      }) tells.time

  pub report_time : {T E : Type 0} {result : Result T E} {old mid : DeskState} {s : ShelfState} {w : World} (new : DeskState) (report : List ℕ)
      → HasHeld owner first quanta old mid (length quanta) s w → Tells mid new report result
      → IfSome old.reads (λ file. Elapses old new (Holding file (held_lines quanta ++ report) old.told))
  report_time {old = old} {mid = mid} new report so_far tells =
      for_file old.reads (λ (file : List ℕ). Elapses old new (Holding file (held_lines quanta ++ report) old.told))
      (λ file is.
      Elapses-then (at_file old.reads (λ (f : List ℕ). Elapses old mid (Holding f (held_lines quanta ++ report) old.told)) file is
      (lines_time report old mid so_far.time))
      (telling_time new report file is so_far tells))

-- ---- from the file to the end

pub holds_on : (setup : SetupFields) (held : Option (List ℕ)) (first : World) (quanta file image : List ℕ) (j : ℕ) → HoldsState setup held file
    → HoldsAfter (owner_of setup) (SaysSame (owner_of setup) file) first quanta j image
    → HoldsAfter (owner_of setup) (HoldsState setup held) first quanta j image
holds_on setup held first quanta file image zero read holds = (holds (Ok held)).0 read
holds_on setup held first quanta file image (suc j) read holds = holds

module _ (setup : SetupFields) (held : Option (List ℕ)) (first : World) (n every : ℕ) where
  abbrev run_quanta : List ℕ
  run_quanta = held_quanta every first.quanta n

  abbrev run_text : List ℕ
  run_text = hold_text first n every

  -- while the file is attached
  pub beginning_time : (old mid : DeskState) (file : List ℕ) → old.reads ≡ Some file
      → UsesDisk old mid (IfTold old (SaysAsBefore (owner_of setup) old.may_leave))
      → Elapses old mid (IsHoldingOn setup held first n every old.may_leave file old.told)
  beginning_time old mid file is uses =
      Elapses-weaker (λ image text m.
      inl (at_file old.reads (λ (f : List ℕ). SaysAsBefore (owner_of setup) old.may_leave f image) file is m.0, m.1)) uses.time

  -- and after that
  pub going_on_time : (old mid new : DeskState) (file : List ℕ) → first.quanta ≤ n → mid.told ≡ old.told → IsSomeAnd mid.reads (HoldsState setup held)
      → IfSome mid.reads (λ f. Elapses mid new (IsHolding (owner_of setup) (SaysSame (owner_of setup) f) first run_quanta run_text mid.told))
      → Elapses mid new (IsHoldingOn setup held first n every old.may_leave file old.told)
  going_on_time old mid new file within told_is still time =
      let there = told_now mid.reads (HoldsState setup held) still in
      let on = at_file mid.reads (λ (f : List ℕ). Elapses mid new (IsHolding (owner_of setup) (SaysSame (owner_of setup) f) first run_quanta run_text mid.told))
      there.0 there.1 time in
      let mine = subst (λ (before : Option (List ℕ)).
      Elapses mid new (IsHolding (owner_of setup) (SaysSame (owner_of setup) there.0) first run_quanta run_text before)) told_is on in
      Elapses-weaker (λ image text m.
      inr (
        within,
        follow_by m (HoldsAfter (owner_of setup) (HoldsState setup held) first run_quanta)
            (λ k has. holds_on setup held first run_quanta there.0 image k there.2 has),
      )) mine

-- what a run goes on from is what the file holds
pub begins_there : (setup : SetupFields) (held : Option (List ℕ)) (first w : World) (old mid : DeskState) (s : ShelfState) (file : List ℕ)
    → old.reads ≡ Some file → HoldsState setup held file → IsFirst setup held first → Begins setup old mid s w
    → (first ≡ w) × IsSomeAnd mid.reads (HoldsState setup held)
begins_there setup held first w old mid s file told holds is b =
    let read = at_file old.reads (HoldsState setup b.goes_on.held) file told b.goes_on.read in
    let same : b.goes_on.held ≡ held = one_held setup file b.goes_on.held held read holds in
    let still = at_file old.reads (λ (f : List ℕ). IsSomeAnd mid.reads (HoldsState setup b.goes_on.held)) file told b.still in (
      one_first setup held first w is (subst (λ (h : Option (List ℕ)). IsFirst setup h w) same b.goes_on.is_first),
      subst (λ (h : Option (List ℕ)). IsSomeAnd mid.reads (HoldsState setup h)) same still,
    )

-- ---- the end

-- the file that all checkpoints were appended to, once the report was told
pub is_last : (owner : Owner) (first : World) (quanta : List ℕ) {T E : Type 0} {result : Result T E} {old mid : DeskState} {s : ShelfState}
    {w : World} (new : DeskState) (report : List ℕ) → HasHeld owner first quanta old mid (length quanta) s w → Tells mid new report result
    → IfSome old.reads (λ file. IsLast owner (SaysSame owner file) first quanta new)
is_last owner first quanta {old = old} {mid = mid} new report so_far tells =
    each_file old.reads (λ (file : List ℕ). IsSomeAnd mid.reads (HoldsAfter owner (SaysSame owner file) first quanta (length quanta)))
    (λ (file : List ℕ). IsLast owner (SaysSame owner file) first quanta new)
    (λ file is holds.
    let there = told_now mid.reads (HoldsAfter owner (SaysSame owner file) first quanta (length quanta)) holds in
    let durable = at_file mid.reads (λ (f : List ℕ). (i : List ℕ) → mid.may_leave i → i ≡ f) there.0 there.1 so_far.attached.settled.durable in
    record {
      file = there.0;
      told = tells.untouched.reads ∙ there.1;
      only = λ image left. durable image ((tells.untouched.crash image).0 left);
      holds = there.2;
    }) so_far.holds

-- ---- the beginning

pub begins_held : (setup : SetupFields) (old new : DeskState) (s : ShelfState) (held : Option WorldFields) (x : WorldFields) (w : World)
    → Attaches (owner_of setup) old new s held → held ≡ Some x → w ≡ x.world → Begins setup old new s w
begins_held setup old new s held x w attaches is same =
    let a = subst (Attaches (owner_of setup) old new s) is attaches in
    record {
      owner_is = a.owner_is;
      attached = a.attached;
      goes_on = record {
        held = Some (state_bytes x.world);
        read = a.held;
        is_first = subst (AreBytesOf setup.settings (state_bytes x.world)) (sym same) a.world_is;
      };
      still = a.still;
    }

pub begins_anew : (setup : SetupFields) (old new : DeskState) (s : ShelfState) (held : Option WorldFields) (w : World)
    → Attaches (owner_of setup) old new s held → held ≡ None → w ≡ start setup → Begins setup old new s w
begins_anew setup old new s held w attaches is same =
    let a = subst (Attaches (owner_of setup) old new s) is attaches in
    record {
      owner_is = a.owner_is;
      attached = a.attached;
      goes_on = record { held = None; read = a.held; is_first = same };
      still = a.still;
    }

-- ---- a state that is too large

pub too_large : (setup : SetupFields) (n every : ℕ) (file : Option (List ℕ)) (first : World) (f : HoldFault) → GoesOnFrom setup file first
    → IsLargeFirst first (held_quanta every first.quanta n) f → RefusesHold setup n every file f
too_large setup n every file first f goes large =
    let i = large.0 in
    let q = large.1 in
    let bytes = length (state_bytes (world_at first q)) in
    let is : IsTooLarge setup n every file q bytes = record {
      first = first;
      goes_on = goes;
      place = i;
      there = large.2;
      before = large.3;
      bytes_are = refl;
      large = large.4.1;
    } in
    subst (RefusesHold setup n every file) (sym large.4.0) is

-- it is not one that comes before a state is appended
pub not_early : (first : World) (quanta : List ℕ) (f : HoldFault) → IsLargeFirst first quanta f → IsEarly f → ⊥
not_early first quanta f large early = subst IsEarly large.4.0 early
