-- A run that goes on from a checkpoint of the serial run comes to the serial run's worlds.
use Rattle.std.proofs.Common.{◌≡◌, ◌∙◌, ◌⊎◌, inl, inr, refl, sym, ap, subst, arith, ℕ, zero, suc, ◌+◌, ◌-◌, ◌*◌, ◌/◌, ◌<◌, ◌≤◌, List, [], ◌∷◌, ◌++◌, length}
use Rattle.std.proofs.Common.{length-append, take, get_or, Option, Some, None, All}
use Rattle.std.specs.Prelude.{IfSome, IsSomeAnd, option_map, slice_get}
use Rattle.std.proofs.lemmas.Bool.{cases_lt}
use Rattle.std.proofs.lemmas.List.{get_or-take, length-take}
use Rattle.std.proofs.lemmas.List.Elements.{All-from_get_or, All-nil}
use Rattle.std.proofs.lemmas.Option.{slice_get-get_or, slice_get_within}
use Rattle.std.proofs.Math.Nat.{div-mul-le_self, lt-mul-div-succ, mul-le-mul_right}
use Rattle.desk_io.specs.Desk.{Appended, DeskState, Elapses}
use Rattle.bank_journal.proofs.Times.{each_file, for_file}
use Rattle.desk_io.proofs.Time.{Elapses-weaker}
use Rattle.report_text.specs.Report.{report}
use Rattle.serial_slicer.specs.Onward.{after}
use Rattle.soup_checkpoint.specs.Hold.{owner_of}
use Rattle.desk_io.specs.Told.{BeginsWithText}
use Rattle.soup_hold.specs.Holding.{EndsWithLast, ForHoldText, GoesOnFrom, HoldsAfter, HoldsOn, HoldsState, HoldsWorld, IsFirst, IsHolding, IsHoldingOn}
use Rattle.soup_hold.specs.Holding.{IsHoldText, IsLast}
use Rattle.soup_hold.specs.Text.{held_line, held_lines, held_quanta, hold_text, last_report, world_at}
use Rattle.soup_hold.proofs.Quanta.{count_of, first_number, held-at, length-held}
use Rattle.soup_hold.proofs.Refusing.{one_beginning, one_held}
use Rattle.soup_hold.proofs.Steps.{lines-next}
use Rattle.soup_hold.proofs.WorldsFit.{serial_fits}
use Rattle.soup_top.specs.Checkpoints.{DiskHoldsSerial, HasTrueMoments, HoldsSerial, IsHeldOn, IsTrueHold, LeavesLast, Resumes, checkpoints, last_held}
use Rattle.soup_top.specs.Checkpoints.{quantum_of, resumed_text}
use Rattle.soup_top.specs.Sources.{run_report}
use Rattle.tierra_model.specs.declared.limits.TheConstants.{MOST_QUANTA}
use Rattle.tierra_model.specs.Quantum.{quantum}
use Rattle.tierra_model.specs.Serial.{serial, start}
use Rattle.tierra_model.specs.Setups.{IsSetup, SetupFields}
use Rattle.tierra_model.specs.World.{World}
use Rattle.tierra_model.proofs.StartIsSound.{serial_is_sound}
use Rattle.world_state.specs.Restoring.{AreBytesOf}
use Rattle.world_state.specs.StateBytes.{state_bytes}

-- ---- the serial run goes on

after-serial : (setup : SetupFields) (m k : ℕ) → after k (serial setup m) ≡ serial setup (m + k)
unfolding after serial
after-serial setup m zero = ap (serial setup) (omega arith)
after-serial setup m (suc k) =
    let next : suc (m + k) ≡ m + suc k = omega arith in
    ap quantum (after-serial setup m k) ∙ ap (serial setup) next

serial-zero : (setup : SetupFields) → serial setup 0 ≡ start setup
unfolding serial
serial-zero setup = refl

serial_at : (setup : SetupFields) → IsSetup setup → (m q : ℕ) → m ≤ MOST_QUANTA → m ≤ q → world_at (serial setup m) q ≡ serial setup q
serial_at setup is m q few le =
    let here : (serial setup m).quanta ≡ m = (serial_is_sound setup m is few).quanta in
    let steps : m + (q - m) ≡ q = omega (arith, le) in
    ap (λ (k : ℕ). after (q - k) (serial setup m)) here ∙ after-serial setup m (q - m) ∙ ap (serial setup) steps

-- ---- more lines make a longer text

each-longer : (quanta : List ℕ) (a d : ℕ) → a + d ≤ length quanta
    → length (held_lines (take a quanta)) + d ≤ length (held_lines (take (a + d) quanta))
each-longer quanta a zero le = let same : a + 0 ≡ a = omega arith in omega (arith, ap (λ (k : ℕ). length (held_lines (take k quanta))) same)
each-longer quanta a (suc d) le =
    let there : a + d < length quanta = omega (arith, le) in
    let next = lines-next quanta (a + d) (get_or quanta (a + d) 0) (slice_get-get_or quanta (a + d) 0 there) in
    let place : a + d + 1 ≡ a + suc d = omega arith in
    omega (
      arith,
      each-longer quanta a d (omega (arith, there)),
      ap length next,
      length-append (held_lines (take (a + d) quanta)) (held_line (get_or quanta (a + d) 0)),
      ap (λ (k : ℕ). length (held_lines (take k quanta))) place,
    )

-- a text no longer than the first j lines has no more of them
lines_in_front : (quanta : List ℕ) (i j : ℕ) (piece rest : List ℕ) → i ≤ length quanta → piece ≡ held_lines (take i quanta) ++ rest
    → length piece ≤ length (held_lines (take j quanta)) → i ≤ j
lines_in_front quanta i j piece rest inside is short = elim (cases_lt j i) [
  | inl more ↦
      let place : j + (i - j) ≡ i = omega (arith, more) in
      absurd (omega (
        arith,
        more,
        each-longer quanta j (i - j) (omega (arith, inside, more)),
        ap (λ (k : ℕ). length (held_lines (take k quanta))) place,
        ap length is,
        length-append (held_lines (take i quanta)) rest,
        short,
      ))
  | inr within ↦ within
]

-- ---- the quanta that are held

module _ (every m n : ℕ) (some : 0 < every) where
  abbrev quanta : List ℕ
  quanta = held_quanta every m n

  abbrev number : ℕ → ℕ
  number j = first_number every m + j

  held_is : (j q : ℕ) → slice_get quanta j ≡ Some q → q ≡ number j * every
  held_is j q is =
      let inside : j < count_of every m n = omega (arith, slice_get_within quanta j q is, length-held every m some n) in
      cc (is, held-at every m some n j (number j) inside refl)

  held_later : (j q : ℕ) → slice_get quanta j ≡ Some q → m ≤ q
  held_later j q is =
      let least = lt-mul-div-succ m some in
      let more : (m / every + 1) * every ≤ number j * every = mul-le-mul_right every (omega arith) in
      omega (arith, least, more, held_is j q is)

  held_within : (j q : ℕ) → slice_get quanta j ≡ Some q → q ≤ n
  held_within j q is =
      let inside : j < count_of every m n = omega (arith, slice_get_within quanta j q is, length-held every m some n) in
      let low : m / every ≤ n / every = omega (arith, inside) in
      let more : number j * every ≤ n / every * every = mul-le-mul_right every (omega (arith, inside, low)) in
      omega (arith, held_is j q is, more, div-mul-le_self n every)

  -- those before one are below it
  held_below : (i j q : ℕ) → i ≤ suc j → slice_get quanta j ≡ Some q → All (λ p. p ≤ q) (take i quanta)
  held_below i j q le is =
      All-from_get_or (λ (p : ℕ). p ≤ q) (take i quanta) 0 (λ k inside.
      let short : k < i = omega (arith, inside, length-take i quanta) in
      let there : k < length quanta = omega (arith, short, le, slice_get_within quanta j q is) in
      let here = held_is k (get_or quanta k 0) (slice_get-get_or quanta k 0 there) in
      let more : number k * every ≤ number j * every = mul-le-mul_right every (omega (arith, short, le)) in
      omega (arith, here, more, held_is j q is, get_or-take i quanta k 0 short))

-- the last of the quanta
last_is : (held : Option ℕ) (quanta : List ℕ) (j q : ℕ) → suc j ≡ length quanta → slice_get quanta j ≡ Some q → last_held held quanta ≡ Some q
last_is held [] j q long is = absurd (omega (arith, long))
last_is held (x ∷ []) zero q long is = cc
last_is held (x ∷ y ∷ quanta) zero q long is = absurd (omega (arith, long))
last_is held (x ∷ quanta) (suc j) q long is = last_is (Some x) quanta j q (omega (arith, long)) cc

none_last : (held : Option ℕ) (quanta : List ℕ) → length quanta ≡ 0 → last_held held quanta ≡ held
none_last held [] none = refl
none_last held (x ∷ quanta) none = absurd (omega (arith, none))

-- ---- what the file holds

-- the state that is held
abbrev pub held_of : SetupFields → Option ℕ → Option (List ℕ)
held_of setup start_at = option_map (λ m. state_bytes (serial setup m)) start_at

abbrev pub first_of : SetupFields → Option ℕ → World
first_of setup start_at = serial setup (quantum_of start_at)

-- the world of the serial run has its bytes
serial_bytes : (setup : SetupFields) (m : ℕ) → IsSetup setup → m ≤ MOST_QUANTA → AreBytesOf setup.settings (state_bytes (serial setup m)) (serial setup m)
serial_bytes setup m is few =
    let run = serial_is_sound setup m is few in
    record { settings = run.settings; sound = run.sound; types = serial_fits setup m is few; bytes = refl }

holds_state : (setup : SetupFields) (start_at : Option ℕ) (image : List ℕ) → IsSetup setup → HoldsSerial setup start_at image
    → HoldsState setup (held_of setup start_at) image
holds_state setup None image is h = h
holds_state setup (Some m) image is h = (h.0, h.1, (serial setup m, serial_bytes setup m is h.2))

first_is : (setup : SetupFields) (start_at : Option ℕ) (image : List ℕ) → IsSetup setup → HoldsSerial setup start_at image
    → IsFirst setup (held_of setup start_at) (first_of setup start_at)
first_is setup None image is h = serial-zero setup
first_is setup (Some m) image is h = serial_bytes setup m is h.2

holds_serial : (setup : SetupFields) (start_at : Option ℕ) (file image : List ℕ) → HoldsSerial setup start_at file
    → HoldsState setup (held_of setup start_at) image → HoldsSerial setup start_at image
holds_serial setup None file image was h = h
holds_serial setup (Some m) file image was h = (h.0, h.1, was.2)

few_quanta : (setup : SetupFields) (start_at : Option ℕ) (file : List ℕ) → HoldsSerial setup start_at file → quantum_of start_at ≤ MOST_QUANTA
few_quanta setup None file h = omega arith
few_quanta setup (Some m) file h = h.2

-- ---- a run that goes on from that

module _ (setup : SetupFields) (start_at : Option ℕ) (file : List ℕ) (read : HoldsSerial setup start_at file) (is : IsSetup setup)
    (n every : ℕ) (some : 0 < every) (most : n ≤ MOST_QUANTA) where
  abbrev all_held : List ℕ
  all_held = checkpoints n every start_at

  abbrev held : Option (List ℕ)
  held = held_of setup start_at

  abbrev first : World
  first = first_of setup start_at

  few : quantum_of start_at ≤ MOST_QUANTA
  few = few_quanta setup start_at file read

  first_quanta : first.quanta ≡ quantum_of start_at
  first_quanta = (serial_is_sound setup (quantum_of start_at) is few).quanta

  goes_there : GoesOnFrom setup (Some file) first
  goes_there = record {
    held = held;
    read = holds_state setup start_at file is read;
    is_first = first_is setup start_at file is read;
  }

  -- the world after one of its checkpoints
  serial_there : (image : List ℕ) (j q : ℕ) → slice_get all_held j ≡ Some q → HoldsWorld (owner_of setup) (world_at first q) image
      → HoldsSerial setup (Some q) image
  serial_there image j q there holds =
      let later : quantum_of start_at ≤ q = held_later every (quantum_of start_at) n some j q there in
      let mine = subst (λ (w : World). HoldsWorld (owner_of setup) w image) (serial_at setup is (quantum_of start_at) q few later) holds in
      (mine.0.0, mine.0.1, omega (arith, most, held_within every (quantum_of start_at) n some j q there))

  -- what it tells is what the serial run tells after that
  text_there : quantum_of start_at ≤ n → hold_text first n every ≡ resumed_text setup n every start_at
  unfolding last_report run_report
  text_there within =
      ap (λ (k : ℕ). held_lines (held_quanta every k n) ++ report (world_at first n)) first_quanta
      ∙ ap (λ (w : World). held_lines all_held ++ report w) (serial_at setup is (quantum_of start_at) n few within)

  pub text_is_resumed : (text : List ℕ) → IsHoldText setup n every (Some file) text → text ≡ resumed_text setup n every start_at
  text_is_resumed text t =
      let same : t.first ≡ first = one_beginning setup (Some file) file t.first first refl t.goes_on goes_there in
      let within : quantum_of start_at ≤ n = omega (arith, ap (λ (w : World). w.quanta) same, first_quanta, t.not_beyond) in
      t.text_is ∙ ap (λ (w : World). hold_text w n every) same ∙ text_there within

  -- no more lines were told than are covered
  lines_told : (j i : ℕ) (piece rest : List ℕ) → (j ≡ length all_held) ⊎ (length piece ≤ length (held_lines (take j all_held)))
      → i ≤ length all_held → piece ≡ held_lines (take i all_held) ++ rest → i ≤ j
  lines_told j i piece rest (inl all) inside text = omega (arith, all, inside)
  lines_told j i piece rest (inr covered) inside text = lines_in_front all_held i j piece rest inside text covered

  abbrev Holding : Option (List ℕ) → List ℕ → List ℕ → Type 0
  Holding = IsHolding (owner_of setup) (HoldsState setup held) first all_held (resumed_text setup n every start_at)

  holding_by : (before : Option (List ℕ)) (image text : List ℕ) (m : Holding before image text) (j : ℕ) → m.k ≡ j
      → HoldsAfter (owner_of setup) (HoldsState setup held) first all_held j image → IsTrueHold setup n every start_at before image text
  holding_by before image text m zero at holds = record {
    held = start_at;
    holds = holds_serial setup start_at file image read holds;
    piece = m.piece;
    which = inl refl;
    text_is = m.told;
    told = λ i rest inside is-told.
        let none : i ≡ 0 = omega (arith, at, lines_told m.k i m.piece rest m.covered inside is-told) in
        rw none (All-nil (λ (q : ℕ). IsSomeAnd start_at (λ k. q ≤ k)));
    part = m.part;
  }
  holding_by before image text m (suc j) at holds =
      let back : m.k - 1 ≡ j = omega (arith, at) in
      let q = holds.0 in
      record {
        held = Some q;
        holds = serial_there image j q holds.1 holds.2;
        piece = m.piece;
        which = inr (record { place = j; there = holds.1; kept_up = subst (λ (k : ℕ). BeginsWithText (held_lines (take k all_held)) m.piece) back m.kept_up });
        text_is = m.told;
        told = λ i rest inside is-told.
            held_below every (quantum_of start_at) n some i j q (omega (arith, at, lines_told m.k i m.piece rest m.covered inside is-told)) holds.1;
        part = m.part;
      }

  -- each moment is true
  pub held_on : (old new : DeskState)
      → Elapses old new (IsHoldingOn setup held first n every old.may_leave file old.told)
      → Elapses old new (IsHeldOn setup n every start_at old.may_leave file old.told)
  held_on old new time = Elapses-weaker (λ image text m. by_part image text m) time
    where
      by_part : (image text : List ℕ) → IsHoldingOn setup held first n every old.may_leave file old.told image text
          → IsHeldOn setup n every start_at old.may_leave file old.told image text
      by_part image text (inl as_before) = inl as_before
      by_part image text (inr (within, m)) =
          let whole = text_there (omega (arith, within, first_quanta)) in
          let there = subst (λ (k : ℕ). IsHolding (owner_of setup) (HoldsState setup held) first (held_quanta every k n) (hold_text first n every)
          old.told image text) first_quanta m in
          let mine = subst (λ (l : List ℕ). IsHolding (owner_of setup) (HoldsState setup held) first all_held l old.told image text) whole there in
          inr (holding_by old.told image text mine mine.k refl mine.has)

  last_by : (j : ℕ) (new : DeskState) (last : IsLast (owner_of setup) (HoldsState setup held) first all_held new) → length all_held ≡ j
      → HoldsAfter (owner_of setup) (HoldsState setup held) first all_held j last.file
      → HoldsSerial setup (last_held start_at all_held) last.file
  last_by zero new last long holds =
      subst (λ (o : Option ℕ). HoldsSerial setup o last.file) (sym (none_last start_at all_held long)) (holds_serial setup start_at file last.file read holds)
  last_by (suc j) new last long holds =
      let q = holds.0 in
      subst (λ (o : Option ℕ). HoldsSerial setup o last.file) (sym (last_is start_at all_held j q (sym long) holds.1))
      (serial_there last.file j q holds.1 holds.2)

  -- and what it leaves is the last of its checkpoints
  pub leaves_last : (new : DeskState) → EndsWithLast setup n every file new
      → DiskHoldsSerial setup (last_held start_at all_held) new.reads new.may_leave
  leaves_last new end =
      let same : end.first ≡ first = one_beginning setup (Some file) file end.first first refl end.goes_on goes_there in
      let state : end.goes_on.held ≡ held = one_held setup file end.goes_on.held held end.goes_on.read (holds_state setup start_at file is read) in
      let its = subst (λ (o : Option (List ℕ)). IsLast (owner_of setup) (HoldsState setup o) end.first (held_quanta every end.first.quanta n) new)
      state end.last in
      let here = subst (λ (w : World). IsLast (owner_of setup) (HoldsState setup held) w (held_quanta every w.quanta n) new) same its in
      let mine = subst (λ (k : ℕ). IsLast (owner_of setup) (HoldsState setup held) first (held_quanta every k n) new) first_quanta here in
      let holds = last_by (length all_held) new mine refl mine.holds in
      record {
        file = mine.file;
        told = mine.told;
        read = holds;
        left = λ image l. subst (HoldsSerial setup (last_held start_at all_held)) (sym (mine.only image l)) holds;
      }

-- ---- a run with checkpoints

module _ (setup : SetupFields) (n every : ℕ) (old new : DeskState) (is : IsSetup setup) (some : 1 ≤ every) (most : n ≤ MOST_QUANTA) where
  abbrev OfStart : (List ℕ → Option ℕ → Type 0) → List ℕ → Type 0
  OfStart P file = (start : Option ℕ) → HoldsSerial setup start file → P file start

  pub resumes : ForHoldText setup n every old.reads (λ text. Appended old.told text new.told) → Resumes setup n every old new
  resumes told =
      for_file old.reads (OfStart (λ file start. Appended old.told (resumed_text setup n every start) new.told)) (λ file at start read.
      let text = subst (λ (o : Option (List ℕ)). IsHoldText setup n every o told.0) at told.1 in
      let same = text_is_resumed setup start file read is n every some most told.0 text in
      subst (λ (text : List ℕ). Appended old.told text new.told) same told.2)

  pub leaves_the_last : IfSome old.reads (λ file. EndsWithLast setup n every file new) → LeavesLast setup n every old new
  leaves_the_last =
      each_file old.reads (λ file. EndsWithLast setup n every file new)
      (OfStart (λ file start. DiskHoldsSerial setup (last_held start (checkpoints n every start)) new.reads new.may_leave))
      (λ file at end start read. leaves_last setup start file read is n every some most new end)

  pub has_true_moments : HoldsOn setup n every old new → HasTrueMoments setup n every old new
  has_true_moments =
      each_file old.reads (λ file. (held : Option (List ℕ)) (first : World) → HoldsState setup held file → IsFirst setup held first
      → Elapses old new (IsHoldingOn setup held first n every old.may_leave file old.told))
      (OfStart (λ file start. Elapses old new (IsHeldOn setup n every start old.may_leave file old.told)))
      (λ file at moments start read.
      held_on setup start file read is n every some most old new
      (moments (held_of setup start) (first_of setup start) (holds_state setup start file is read) (first_is setup start file is read)))
