-- What comes of a run, by how it began and how it went on.
use Rattle.std.proofs.Common.{◌≡◌, ◌⊎◌, inl, inr, refl, sym, subst, ℕ, ◌<◌, ◌≤◌, List, length, Option, Some, Result, Ok, Err, OnOk, All}
use Rattle.std.specs.Prelude.{IfErr, IfSome, IsSomeAnd}
use Rattle.desk_io.specs.Desk.{Appended, AppendedSome, DeskState, Elapses, TellsText, UsesDisk}
use Rattle.desk_io.specs.Told.{AppendedLess}
use Rattle.desk_io.proofs.Time.{Elapses-then, Elapses-weaker}
use Rattle.file_journal.specs.Files.{IsFresh}
use Rattle.file_journal.specs.Steps.{IfTold, IsUnwritten}
use Rattle.file_journal.proofs.Times.{at_file, each_file, for_file, told_now}
use Rattle.soup_checkpoint.specs.declared.faults.HoldFault.{HoldFault}
use Rattle.soup_checkpoint.specs.declared.faults.HoldFault.TheVariants as fault
use Rattle.soup_checkpoint.specs.declared.owner.Owner.{Owner}
use Rattle.soup_checkpoint.specs.Hold.{HoldSays, owner_of, title}
use Rattle.soup_checkpoint.specs.Shelf.{IsOfFile, Refuses, SaysAsBefore, SaysSame, ShelfState}
use Rattle.soup_hold.specs.declared.stop.HoldStop.{HoldStop}
use Rattle.soup_hold.specs.declared.stop.HoldStop.TheVariants as stop
use Rattle.soup_hold.specs.Holding.{CanHold, EndsWithLast, ForHoldText, GoesOnFrom, HoldsOn, HoldsState, IsBeyond, IsEarly, IsFirst, IsHolding}
use Rattle.soup_hold.specs.Holding.{IsHoldingOn, IsHoldText, IsLast, IsSmall, RefusesHold}
use Rattle.soup_hold.specs.Ending.{IsDone, IsRefused, IsStopped}
use Rattle.soup_hold.specs.Steps.{Begins, IsLargeFirst}
use Rattle.soup_hold.specs.Stops.{IfRefused, UnlessTelling}
use Rattle.soup_hold.specs.Text.{held_quanta, hold_text, world_at}
use Rattle.soup_hold.proofs.Refusing.{goes_on_no_further, not_fresh, one_beginning}
use Rattle.soup_hold.proofs.Stopping.{unless_telling}
use Rattle.soup_hold.proofs.Whole.{beginning_time, begins_there, going_on_time, holds_on, not_early, too_large}
use Rattle.tierra_model.specs.Setups.{SetupFields}
use Rattle.tierra_model.specs.World.{World}

module _ (setup : SetupFields) (n every : ℕ) (old : DeskState) where
  abbrev Quiet : DeskState → Type 0
  Quiet new = Elapses old new (λ image text. old.may_leave image)

  -- nothing was told, or the first bytes of a text of the run, but not all of them
  abbrev CutShort : DeskState → Type 0
  CutShort new = (new.told ≡ old.told) ⊎ ForHoldText setup n every old.reads (λ text. AppendedLess old.told text new.told)

  abbrev QuietWhereRefused : DeskState → HoldFault → Type 0
  QuietWhereRefused new f = IfSome old.reads (λ file. RefusesHold setup n every (Some file) f → Quiet new)

  -- a refused file is not written while it is attached
  pub begun_quietly : (mid : DeskState) → IfSome old.reads (λ file. (IsFresh title file → ⊥) → UsesDisk old mid old.may_leave)
      → (f : HoldFault) → IsEarly f → QuietWhereRefused mid f
  begun_quietly mid quiet f early =
      each_file old.reads (λ (file : List ℕ). (IsFresh title file → ⊥) → UsesDisk old mid old.may_leave)
      (λ (file : List ℕ). RefusesHold setup n every (Some file) f → Quiet mid)
      (λ file is uses r. Elapses-weaker (λ image text m. m.0) (uses (not_fresh setup n every file f early r)).time) quiet

  -- until it is attached, the file says what it might have said
  pub begun_time : (mid : DeskState) → UsesDisk old mid (IfTold old (SaysAsBefore (owner_of setup) old.may_leave)) → HoldsOn setup n every old mid
  begun_time mid uses =
      for_file old.reads (λ (file : List ℕ). (held : Option (List ℕ)) (first : World) → HoldsState setup held file → IsFirst setup held first
      → Elapses old mid (IsHoldingOn setup held first n every old.may_leave file old.told))
      (λ file told held first holds is. beginning_time setup held first n every old mid file told uses)

  -- what is wrong with the file is why it is refused
  of_file : (f : HoldFault) → IsOfFile f → IfSome old.reads (λ file. HoldSays file setup (Err f)) → RefusesHold setup n every old.reads f
  of_file fault.NotAHold is says = says
  of_file fault.Foreign is says = says
  of_file (fault.Damaged frame) is says = says
  of_file (fault.Beyond held) is says = absurd is
  of_file (fault.TooLarge quantum bytes) is says = absurd is

  refused_attaching : (mid : DeskState) (s : HoldStop) → mid.told ≡ old.told
      → IfRefused s (λ f. IsOfFile f × Refuses (owner_of setup) old mid f) → IfRefused s (IsRefused setup n every old mid)
  refused_attaching mid (stop.Refused f) same refused = record {
    reason = of_file f refused.0 refused.1.says;
    untold = λ early. same;
    unwritten = λ early. for_file old.reads (λ (file : List ℕ). IsUnwritten old mid) (λ file is. refused.1.unwritten);
  }
  refused_attaching mid stop.DiskFault same refused = tt
  refused_attaching mid stop.TellFault same refused = tt
  refused_attaching mid stop.OutOfMemory same refused = tt

  -- it stopped while the file was attached
  pub stopped_attaching : (mid : DeskState) (s : HoldStop) → mid.told ≡ old.told
      → IfRefused s (λ f. IsOfFile f × Refuses (owner_of setup) old mid f) → IsStopped setup n every old mid s
  stopped_attaching mid s same refused = record {
    partly = inl same;
    unfinished = unless_telling s (CutShort mid) (inl same);
    refused = refused_attaching mid s same refused;
  }

  module _ (mid : DeskState) (s : ShelfState) (w : World) (b : Begins setup old mid s w) where
    goes_from : (file : List ℕ) → old.reads ≡ Some file → GoesOnFrom setup (Some file) w
    goes_from file is = subst (λ (o : Option (List ℕ)). GoesOnFrom setup o w) is b.goes_on

    -- ---- the world that is held has run further

    is_beyond : (held : ℕ) → held ≡ w.quanta → n < held → IsBeyond setup n old.reads held
    is_beyond held is more = record { first = w; goes_on = b.goes_on; at = sym is; beyond = more }

    beyond_unwritten : (held : ℕ) → held ≡ w.quanta → n < held
        → IfSome old.reads (λ file. (IsFresh title file → ⊥) → IsUnwritten old mid) → IfSome old.reads (λ file. IsUnwritten old mid)
    beyond_unwritten held is more kept =
        each_file old.reads (λ (file : List ℕ). (IsFresh title file → ⊥) → IsUnwritten old mid) (λ (file : List ℕ). IsUnwritten old mid)
        (λ file there unwritten.
        let refused : RefusesHold setup n every (Some file) (fault.Beyond held) =
        record { first = w; goes_on = goes_from file there; at = sym is; beyond = more } in
        unwritten (not_fresh setup n every file (fault.Beyond held) tt refused)) kept

    pub stopped_beyond : (held : ℕ) → held ≡ w.quanta → n < held → mid.told ≡ old.told
        → IfSome old.reads (λ file. (IsFresh title file → ⊥) → IsUnwritten old mid)
        → IsStopped setup n every old mid (stop.Refused (fault.Beyond held))
    stopped_beyond held is more same kept = record {
      partly = inl same;
      unfinished = inl same;
      refused = record {
        reason = is_beyond held is more;
        untold = λ early. same;
        unwritten = λ early. beyond_unwritten held is more kept;
      };
    }

    -- ---- the run goes on

    pub went_on_unrefused : (new : DeskState) → w.quanta ≤ n → (f : HoldFault) → IsEarly f → QuietWhereRefused new f
    went_on_unrefused new within f early =
        for_file old.reads (λ (file : List ℕ). RefusesHold setup n every (Some file) f → Quiet new)
        (λ file is r. absurd (goes_on_no_further setup n every file w f early (goes_from file is) within r))

    -- what is said of the moments after the file was attached, where it is the setup's and goes on from this world
    pub whole_time : (new : DeskState) → w.quanta ≤ n → UsesDisk old mid (IfTold old (SaysAsBefore (owner_of setup) old.may_leave))
        → IfSome mid.reads (λ file. Elapses mid new
        (IsHolding s.owner (SaysSame s.owner file) w (held_quanta every w.quanta n) (hold_text w n every) mid.told))
        → HoldsOn setup n every old new
    whole_time new within uses time =
        for_file old.reads (λ (file : List ℕ). (held : Option (List ℕ)) (first : World) → HoldsState setup held file → IsFirst setup held first
        → Elapses old new (IsHoldingOn setup held first n every old.may_leave file old.told)) (λ file told held first holds is.
        let there = begins_there setup held first w old mid s file told holds is b in
        let owned = subst (λ (o : Owner). IfSome mid.reads (λ file. Elapses mid new
        (IsHolding o (SaysSame o file) w (held_quanta every w.quanta n) (hold_text w n every) mid.told))) b.owner_is time in
        let mine = subst (λ (v : World). IfSome mid.reads (λ file. Elapses mid new
        (IsHolding (owner_of setup) (SaysSame (owner_of setup) file) v (held_quanta every v.quanta n) (hold_text v n every) mid.told)))
        (sym there.0) owned in
        Elapses-then (beginning_time setup held first n every old mid file told uses)
        (going_on_time setup held first n every old mid new file (subst (λ (v : World). v.quanta ≤ n) (sym there.0) within) uses.told there.1 mine))

    -- the file that it ends with
    ends_with_last : (new : DeskState)
        → IfSome mid.reads (λ file. IsLast s.owner (SaysSame s.owner file) w (held_quanta every w.quanta n) new)
        → IfSome old.reads (λ file. EndsWithLast setup n every file new)
    ends_with_last new last =
        each_file old.reads (λ (file : List ℕ). IsSomeAnd mid.reads (HoldsState setup b.goes_on.held))
        (λ (file : List ℕ). EndsWithLast setup n every file new)
        (λ file is still.
        let there = told_now mid.reads (HoldsState setup b.goes_on.held) still in
        let quanta = held_quanta every w.quanta n in
        let here = at_file mid.reads (λ (f : List ℕ). IsLast s.owner (SaysSame s.owner f) w quanta new) there.0 there.1 last in
        let mine = subst (λ (o : Owner). IsLast o (SaysSame o there.0) w quanta new) b.owner_is here in
        record {
          first = w;
          goes_on = record {
            held = b.goes_on.held;
            read = at_file old.reads (HoldsState setup b.goes_on.held) file is b.goes_on.read;
            is_first = b.goes_on.is_first;
          };
          last = record {
            file = mine.file;
            told = mine.told;
            only = mine.only;
            holds = holds_on setup b.goes_on.held w quanta there.0 mine.file (length quanta) there.2 mine.holds;
          };
        }) b.still

    abbrev text : List ℕ
    text = hold_text w n every

    is_text : w.quanta ≤ n → IsHoldText setup n every old.reads text
    is_text within = record { first = w; goes_on = b.goes_on; not_beyond = within; text_is = refl }

    all_told : w.quanta ≤ n → (new : DeskState) → mid.told ≡ old.told → Appended mid.told text new.told
        → ForHoldText setup n every old.reads (λ t. Appended old.told t new.told)
    all_told within new same told = (text, is_text within, subst (λ (o : Option (List ℕ)). Appended o text new.told) same told)

    part_told : w.quanta ≤ n → (new : DeskState) → mid.told ≡ old.told → AppendedSome mid.told text new.told
        → (new.told ≡ old.told) ⊎ ForHoldText setup n every old.reads (λ t. AppendedSome old.told t new.told)
    part_told within new same some =
        inr (text, is_text within, subst (λ (o : Option (List ℕ)). AppendedSome o text new.told) same some)

    cut_short_now : (new : DeskState) → w.quanta ≤ n → mid.told ≡ old.told → AppendedLess mid.told text new.told
        → CutShort new
    cut_short_now new within same less =
        inr (text, is_text within, subst (λ (o : Option (List ℕ)). AppendedLess o text new.told) same less)

    cut_short_by : (s : HoldStop) (new : DeskState) → w.quanta ≤ n → mid.told ≡ old.told
        → UnlessTelling s (AppendedLess mid.told text new.told) → UnlessTelling s (CutShort new)
    cut_short_by stop.TellFault new within same less = tt
    cut_short_by (stop.Refused f) new within same less = cut_short_now new within same less
    cut_short_by stop.DiskFault new within same less = cut_short_now new within same less
    cut_short_by stop.OutOfMemory new within same less = cut_short_now new within same less

    all_small : All (λ q. IsSmall (world_at w q)) (held_quanta every w.quanta n) → IfSome old.reads (λ file. CanHold setup n every (Some file))
    all_small small =
        for_file old.reads (λ (file : List ℕ). CanHold setup n every (Some file))
        (λ file is. record {
          image = file;
          told = refl;
          small = λ first goes.
              let same = one_beginning setup (Some file) file w first refl (goes_from file is) goes in
              subst (λ (v : World). All (λ q. IsSmall (world_at v q)) (held_quanta every v.quanta n)) same small;
        })

    pub done_then : {T : Type 0} (r : Result T HoldStop) (new : DeskState) → w.quanta ≤ n → mid.told ≡ old.told → TellsText mid new text r
        → OnOk r (All (λ q. IsSmall (world_at w q)) (held_quanta every w.quanta n))
        → OnOk r (IfSome mid.reads (λ file. IsLast s.owner (SaysSame s.owner file) w (held_quanta every w.quanta n) new))
        → OnOk r (IsDone setup n every old new)
    done_then (Ok x) new within same tells small last = record {
      told = all_told within new same tells.all;
      small = all_small small;
      last = ends_with_last new last;
    }
    done_then (Err s) new within same tells small last = tt

    refused_by : (s : HoldStop) (new : DeskState) → IfRefused s (IsLargeFirst w (held_quanta every w.quanta n))
        → IfRefused s (IsRefused setup n every old new)
    refused_by (stop.Refused f) new large =
        let late : IsEarly f → ⊥ = not_early w (held_quanta every w.quanta n) f large in
        record {
          reason = too_large setup n every old.reads w f b.goes_on large;
          untold = λ early. absurd (late early);
          unwritten = λ early. absurd (late early);
        }
    refused_by stop.DiskFault new large = tt
    refused_by stop.TellFault new large = tt
    refused_by stop.OutOfMemory new large = tt

    pub stopped_then : {T : Type 0} (r : Result T HoldStop) (new : DeskState) → w.quanta ≤ n → mid.told ≡ old.told → TellsText mid new text r
        → IfErr r (λ s. UnlessTelling s (AppendedLess mid.told text new.told))
        → IfErr r (λ s. IfRefused s (IsLargeFirst w (held_quanta every w.quanta n))) → IfErr r (IsStopped setup n every old new)
    stopped_then (Ok x) new within same tells less large = tt
    stopped_then (Err s) new within same tells less large = record {
      partly = part_told within new same tells.partly;
      unfinished = cut_short_by s new within same less;
      refused = refused_by s new large;
    }
