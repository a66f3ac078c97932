-- One checkpoint more of a run.
use Rattle.std.proofs.Common.{◌≡◌, ◌∙◌, inl, inr, refl, sym, ap, subst, arith, ℕ, zero, suc, add-one, ◌+◌, ◌-◌, ◌≤◌, List, [], ◌∷◌, ◌++◌, length, length-append}
use Rattle.std.proofs.Common.{take, drop, append-nil, take-append-drop, append_assoc, Option, Some, Ok, All}
use Rattle.std.specs.Prelude.{IfSome, IsSomeAnd, slice_get}
use Rattle.std.proofs.lemmas.List.{at_drop_more, length-take, take-take, take_more}
use Rattle.std.proofs.lemmas.List.Concat.{flat_map-append}
use Rattle.std.proofs.lemmas.List.Elements.{All-nil, All-push}
use Rattle.std.proofs.lemmas.Option.{get_or_from_slice_get, slice_get_within}
use Rattle.desk_io.specs.Desk.{Appended, AppendedSome, DeskState, Elapses}
use Rattle.desk_io.proofs.Time.{Elapses-none, Elapses-then, Elapses-weaker}
use Rattle.file_journal.proofs.Times.{at_file, for_file, now_told, told_now}
use Rattle.soup_checkpoint.specs.declared.owner.Owner.{Owner}
use Rattle.soup_checkpoint.specs.Shelf.{IsAttached, SaysSame, ShelfState}
use Rattle.soup_hold.specs.declared.stop.HoldStop.{HoldStop}
use Rattle.soup_hold.specs.declared.stop.HoldStop.TheVariants as stop
use Rattle.desk_io.specs.Told.{BeginsWithText}
use Rattle.soup_hold.specs.Holding.{HoldsAfter, HoldsWorld, IsHolding, IsSmall}
use Rattle.soup_hold.specs.Steps.{HasHeld, HasStopped, HoldsNext, IsHoldingNext, IsLargeAt, IsLargeFirst, IsWorldAfter}
use Rattle.soup_hold.specs.Stops.{CountsStop, IfRefused}
use Rattle.soup_hold.specs.Text.{held_line, held_lines, world_at}
use Rattle.desk_io.proofs.Telling.{Appended-then, ToldSoFar, as_told, nothing_appended, piece_begun, told_after}
use Rattle.tierra_model.specs.World.{World}
use Rattle.world_state.specs.StateBytes.{state_bytes}

-- ---- one quantum more of the list

take-next : (quanta : List ℕ) (j q : ℕ) → slice_get quanta j ≡ Some q → take (j + 1) quanta ≡ take j quanta ++ q ∷ []
take-next quanta j q is =
    take_more quanta j q (slice_get_within quanta j q is)
    ∙ ap (λ (x : ℕ). take j quanta ++ x ∷ []) (get_or_from_slice_get quanta j q q is)

pub lines-next : (quanta : List ℕ) (j q : ℕ) → slice_get quanta j ≡ Some q
    → held_lines (take (j + 1) quanta) ≡ held_lines (take j quanta) ++ held_line q
lines-next quanta j q is =
    ap held_lines (take-next quanta j q is)
    ∙ flat_map-append held_line (take j quanta) (q ∷ [])
    ∙ ap (λ (l : List ℕ). held_lines (take j quanta) ++ l) (append-nil (held_line q))

lines-rest : (quanta : List ℕ) (j q : ℕ) → slice_get quanta j ≡ Some q
    → held_lines (drop j quanta) ≡ held_line q ++ held_lines (drop (j + 1) quanta)
lines-rest quanta j q is =
    at_drop_more held_lines quanta j q (slice_get_within quanta j q is)
    ∙ ap (λ (x : ℕ). held_line x ++ held_lines (drop (j + 1) quanta)) (get_or_from_slice_get quanta j q q is)

-- fewer lines begin more
pub fewer_lines : (quanta : List ℕ) (i j : ℕ) → i ≤ j → BeginsWithText (held_lines (take i quanta)) (held_lines (take j quanta))
fewer_lines quanta i j le =
    let front : take i (take j quanta) ≡ take i quanta = take-take i j quanta le in (
      held_lines (drop i (take j quanta)),
      ap held_lines (sym (take-append-drop i (take j quanta)) ∙ ap (λ (l : List ℕ). l ++ drop i (take j quanta)) front)
          ∙ flat_map-append held_line (take i quanta) (drop i (take j quanta)),
    )

-- and so a text that goes on from those
pub begins_still : (quanta : List ℕ) (i j : ℕ) (piece : List ℕ) → i ≤ j
    → BeginsWithText (held_lines (take i quanta)) (held_lines (take j quanta) ++ piece)
begins_still quanta i j piece le =
    let fewer = fewer_lines quanta i j le in (
      fewer.0 ++ piece,
      ap (λ (l : List ℕ). l ++ piece) fewer.1 ∙ append_assoc (held_lines (take i quanta)) fewer.0 piece,
    )

-- and so do some of the next one's
lines_and_some : (quanta : List ℕ) (j q i : ℕ) → slice_get quanta j ≡ Some q
    → BeginsWithText (held_lines (take j quanta) ++ take i (held_line q)) (held_lines quanta)
lines_and_some quanta j q i at =
    let lines = held_lines (take j quanta) in
    let some = take i (held_line q) in
    let rest = drop i (held_line q) in
    let left = held_lines (drop (j + 1) quanta) in (
      rest ++ left,
      ap held_lines (sym (take-append-drop j quanta)) ∙ flat_map-append held_line (take j quanta) (drop j quanta)
          ∙ ap (λ (l : List ℕ). lines ++ l) (lines-rest quanta j q at ∙ ap (λ (l : List ℕ). l ++ left) (sym (take-append-drop i (held_line q)))
          ∙ append_assoc some rest left)
          ∙ sym (append_assoc lines some (rest ++ left)),
    )

-- the lines of the first j were told
pub lines_told : (quanta : List ℕ) (j : ℕ) (before now : Option (List ℕ)) → Appended before (held_lines (take j quanta)) now
    → ToldSoFar (held_lines quanta) (held_lines (drop j quanta)) before now
lines_told quanta j before now told = record {
  done = held_lines (take j quanta);
  parts = sym (flat_map-append held_line (take j quanta) (drop j quanta)) ∙ ap held_lines (take-append-drop j quanta);
  told = told;
}

large_first : (first : World) (quanta : List ℕ) (j q : ℕ) (cause : HoldStop) → slice_get quanta j ≡ Some q
    → All (λ p. IsSmall (world_at first p)) (take j quanta) → IfRefused cause (IsLargeAt (world_at first q) q)
    → IfRefused cause (IsLargeFirst first quanta)
large_first first quanta j q (stop.Refused f) at small large = (j, q, at, small, large)
large_first first quanta j q stop.DiskFault at small large = tt
large_first first quanta j q stop.TellFault at small large = tt
large_first first quanta j q stop.OutOfMemory at small large = tt

module _ (owner : Owner) (first : World) (quanta : List ℕ) where
  -- what the file of one checkpoint says the image says
  says_on : (file between image : List ℕ) (j : ℕ) → HoldsAfter owner (SaysSame owner file) first quanta j between
      → SaysSame owner between image → HoldsAfter owner (SaysSame owner file) first quanta j image
  says_on file between image zero held same = λ r. (λ says. (same r).0 ((held r).0 says), λ says. (held r).1 ((same r).1 says))
  says_on file between image (suc j) held same =
      (held.0, held.1, ((same (Ok (Some (state_bytes (world_at first held.0))))).0 held.2.0, held.2.1))

  abbrev Holding : List ℕ → Option (List ℕ) → List ℕ → List ℕ → Type 0
  Holding file = IsHolding owner (SaysSame owner file) first quanta (held_lines quanta)

  holding_next : (file between : List ℕ) (before now : Option (List ℕ)) (j q : ℕ) (image text : List ℕ) → slice_get quanta j ≡ Some q
      → HoldsAfter owner (SaysSame owner file) first quanta j between → Appended before (held_lines (take j quanta)) now
      → IsHoldingNext owner between (world_at first q) (held_line q) now image text → Holding file before image text
  holding_next file between before now j q image text at held told (inl (same, untold)) = record {
    k = j;
    inside = omega (arith, slice_get_within quanta j q at);
    has = says_on file between image j held same;
    piece = held_lines (take j quanta) ++ [];
    told = told_after before now (held_lines (take j quanta)) text [] text told untold (sym (append-nil text));
    kept_up = begins_still quanta (j - 1) j [] (omega arith);
    covered = inr (omega (arith, length-append (held_lines (take j quanta)) []));
    part = lines_and_some quanta j q 0 at;
  }
  holding_next file between before now j q image text at held told (inr (holds, telling)) =
      let piece : List ℕ = take telling.0 (held_line q) in
      let next : held_lines (take (suc j) quanta) ≡ held_lines (take j quanta) ++ held_line q =
      subst (λ (k : ℕ). held_lines (take k quanta) ≡ held_lines (take j quanta) ++ held_line q) (add-one j) (lines-next quanta j q at) in
      record {
        k = suc j;
        inside = omega (arith, slice_get_within quanta j q at);
        has = (q, at, holds);
        piece = held_lines (take j quanta) ++ piece;
        told = told_after before now (held_lines (take j quanta)) telling.1.0 piece text told telling.1.1 telling.1.2;
        kept_up = begins_still quanta (suc j - 1) j piece (omega arith);
        covered = inr (omega (
          arith,
          ap length next,
          length-append (held_lines (take j quanta)) (held_line q),
          length-append (held_lines (take j quanta)) piece,
          length-take telling.0 (held_line q),
        ));
        part = lines_and_some quanta j q telling.0 at;
      }

  -- ---- from one to the next

  module _ {old mid : DeskState} {j : ℕ} {s : ShelfState} {w : World} (so_far : HasHeld owner first quanta old mid j s w) {q : ℕ}
      (at : slice_get quanta j ≡ Some q) (new : DeskState)
      (moments : IfSome mid.reads (λ file. Elapses mid new (IsHoldingNext s.owner file (world_at first q) (held_line q) mid.told))) where
    time_on : IfSome old.reads (λ file. Elapses old new (Holding file old.told))
    time_on =
        for_file old.reads (λ (file : List ℕ). Elapses old new (Holding file old.told))
        (λ file is.
        let now = at_file old.reads (λ (f : List ℕ). IsSomeAnd mid.reads (HoldsAfter owner (SaysSame owner f) first quanta j)) file is so_far.holds in
        let there = told_now mid.reads (HoldsAfter owner (SaysSame owner file) first quanta j) now in
        let on = at_file mid.reads (λ (f : List ℕ). Elapses mid new (IsHoldingNext s.owner f (world_at first q) (held_line q) mid.told)) there.0 there.1
        moments in
        let owned = subst (λ (o : Owner). Elapses mid new (IsHoldingNext o there.0 (world_at first q) (held_line q) mid.told)) so_far.owner_is on in
        Elapses-then (at_file old.reads (λ (f : List ℕ). Elapses old mid (Holding f old.told)) file is so_far.time)
        (Elapses-weaker (λ image text next.
        holding_next file there.0 old.told mid.told j q image text at there.2 so_far.told next) owned))

    holds_on : IfSome mid.reads (λ file. IsSomeAnd new.reads (HoldsWorld s.owner (world_at first q)))
        → IfSome old.reads (λ file. IsSomeAnd new.reads (HoldsAfter owner (SaysSame owner file) first quanta (j + 1)))
    holds_on holds =
        for_file old.reads (λ (file : List ℕ). IsSomeAnd new.reads (HoldsAfter owner (SaysSame owner file) first quanta (j + 1)))
        (λ file is.
        let now = at_file old.reads (λ (f : List ℕ). IsSomeAnd mid.reads (HoldsAfter owner (SaysSame owner f) first quanta j)) file is so_far.holds in
        let there = told_now mid.reads (HoldsAfter owner (SaysSame owner file) first quanta j) now in
        let here = at_file mid.reads (λ (f : List ℕ). IsSomeAnd new.reads (HoldsWorld s.owner (world_at first q))) there.0 there.1 holds in
        let owned = subst (λ (o : Owner). IsSomeAnd new.reads (HoldsWorld o (world_at first q))) so_far.owner_is here in
        let next = now_told new.reads (HoldsWorld owner (world_at first q)) (HoldsAfter owner (SaysSame owner file) first quanta (suc j))
        (λ f h. (q, at, h)) owned in
        subst (λ (k : ℕ). IsSomeAnd new.reads (HoldsAfter owner (SaysSame owner file) first quanta k)) (sym (add-one j)) next)

    pub next_has_held : (t : ShelfState) (v : World) → HoldsNext s (world_at first q) mid new t → v ≡ world_at first q
        → Appended mid.told (held_line q) new.told → HasHeld owner first quanta old new (j + 1) t v
    next_has_held t v next v_is told = record {
      owner_is = next.owner_is ∙ so_far.owner_is;
      inside = omega (arith, slice_get_within quanta j q at);
      world_is = subst (λ (k : ℕ). IsWorldAfter first quanta k v) (sym (add-one j)) (q, at, v_is);
      attached = next.attached;
      small = rw (take-next quanta j q at) (All-push (λ (p : ℕ). IsSmall (world_at first p)) (take j quanta) q so_far.small next.small);
      told = rw (lines-next quanta j q at) (Appended-then old.told mid.told new.told (held_lines (take j quanta)) (held_line q) so_far.told told);
      holds = holds_on next.holds;
      time = time_on;
    }

    pub next_has_stopped : (cause : HoldStop) → IfRefused cause (IsLargeAt (world_at first q) q) → AppendedSome mid.told (held_line q) new.told
        → CountsStop cause new → HasStopped owner first quanta old new cause
    next_has_stopped cause large partly counts = record {
      large = large_first first quanta j q cause at so_far.small large;
      partly = piece_begun (held_line q) (held_lines (drop (j + 1) quanta)) (lines-rest quanta j q at)
          (lines_told quanta j old.told mid.told so_far.told) partly;
      time = time_on;
      counts = counts;
    }

  -- ---- the ends

  pub none_held : (old : DeskState) (s : ShelfState) → s.owner ≡ owner → IsAttached s old → HasHeld owner first quanta old old 0 s first
  none_held old s owner_is attached = record {
    owner_is = owner_is;
    inside = omega arith;
    world_is = refl;
    attached = attached;
    small = All-nil (λ (p : ℕ). IsSmall (world_at first p));
    told = nothing_appended old.told;
    holds = for_file old.reads (λ (file : List ℕ). IsSomeAnd old.reads (HoldsAfter owner (SaysSame owner file) first quanta 0))
        (λ file is. subst (λ (o : Option (List ℕ)). IsSomeAnd o (SaysSame owner file)) (sym is) (λ r. (λ says. says, λ says. says)));
    time = for_file old.reads (λ (file : List ℕ). Elapses old old (Holding file old.told)) (λ file is. Elapses-none old (Holding file old.told));
  }

  -- nothing failed, and so want of memory may stop it
  pub want_stops : {old now : DeskState} {j : ℕ} {s : ShelfState} {w : World} → HasHeld owner first quanta old now j s w
      → HasStopped owner first quanta old now stop.OutOfMemory
  want_stops {old = old} {now = now} {j = j} so_far = record {
    large = tt;
    partly = as_told (lines_told quanta j old.told now.told so_far.told);
    time = so_far.time;
    counts = so_far.attached.settled.sound;
  }
