-- A desk in memory after one more call, which was noted or found no memory.
use Rattle.std.proofs.Common.{◌≡◌, ◌⊎◌, ◌↔◌, ◌∙◌, inl, inr, ⊎_elim, refl, sym, ap, subst, ℕ, Bool, true, false, List, [], ◌++◌, length, take, Some, Result, Ok}
use Rattle.std.proofs.Common.{Err, OnOk, OnErr, IsErr, IsTrue, append-nil}
use Rattle.std.proofs.lemmas.List.Sums.{fold_push}
use Rattle.std.specs.declared.alloc.AllocError.{AllocError}
use Rattle.desk_io.specs.Desk.{Torn, Follows, NoMore, Same, Appended, AppendedSome, Elapses, IsNow, IsTelling, Tells, UsesDisk}
use Rattle.test_desks.specs.Calls.{is_tell, made, Moment, file_at, next, MayLeave}
use Rattle.test_desks.specs.Fits.{IsInside, IsMoment}
use Rattle.test_desks.specs.Kept.{changes_nothing}
use Rattle.test_desks.specs.MemDesk.{MemDeskState, now, file_of, reads_of, images_of, told_of, state_of, noted, Notes, disk_counted, disk_starved}
use Rattle.test_desks.specs.MemDesk.{NotesDiskCall}
use Rattle.test_desks.specs.MemDesk.{tell_counted, tell_starved, NotesTell}
use Rattle.test_desks.specs.declared.call.Call.{Call}
use Rattle.test_desks.specs.declared.call.Call.TheVariants.{Write, TooLong, Sync, Tell}
use Rattle.test_desks.specs.FitSteps.{reads-same}
use Rattle.test_desks.proofs.MomentSteps.{elapses_push, elapses_same}
use Rattle.test_desks.proofs.NextSteps.{moment_next, inside_plain, same_next, plain_file, plain_next, tell_file, told_as_it_was, write_next, write_none}
use Rattle.test_desks.proofs.NextSteps.{sync_next, tell_next, told_next}
use Rattle.test_desks.specs.Splices.{torn_none}
use Rattle.desk_io.proofs.Time.{Elapses-weaker}

-- a call that was noted, or found no memory, and then was counted
pub settles : (counted : MemDeskState → Bool → MemDeskState) (starved : MemDeskState → MemDeskState)
    (old mid new : MemDeskState) (call : Call) (failed : Bool) (notes : Result (Unit {0}) AllocError)
    → OnOk notes (mid ≡ noted old call failed) → OnErr notes (mid ≡ old)
    → OnOk notes (new ≡ counted mid failed) → OnErr notes (new ≡ starved mid)
    → Notes counted starved old call failed new
settles counted starved old mid new call failed (Ok u) ok err fed hungry = inl (fed ∙ ap (λ d. counted d failed) ok)
settles counted starved old mid new call failed (Err e) ok err fed hungry = inr (hungry ∙ ap starved err)

now-noted : (d : MemDeskState) (call : Call) (failed : Bool)
    → now (noted d call failed) ≡ next (now d) (made call failed)
now-noted d call failed =
    fold_push next (record { durable = d.image; since = []; told = [] }) d.calls (made call failed)

-- a count changes nothing of what is there
pub record CountsAlone (counted : MemDeskState → Bool → MemDeskState) (starved : MemDeskState → MemDeskState) : Type 0 where
  pub counted_now : (d : MemDeskState) (failed : Bool) → now (counted d failed) ≡ now d
  pub starved_now : (d : MemDeskState) → now (starved d) ≡ now d

disk_alone : CountsAlone disk_counted disk_starved
disk_alone = record { counted_now = λ d failed. refl; starved_now = λ d. refl }

tell_alone : CountsAlone tell_counted tell_starved
tell_alone = record { counted_now = λ d failed. refl; starved_now = λ d. refl }

-- what holds of the moments before and after a call holds where it was noted, and where it was not
of_call : {counted : MemDeskState → Bool → MemDeskState} {starved : MemDeskState → MemDeskState}
    → CountsAlone counted starved → (P : Moment → Moment → Type 0) (old new : MemDeskState) (call : Call) (failed : Bool)
    → Notes counted starved old call failed new → P (now old) (next (now old) (made call failed)) → P (now old) (now old)
    → P (now old) (now new)
of_call {counted = counted} {starved = starved} alone P old new call failed notes after none = ⊎_elim
    (λ (is : new ≡ counted (noted old call failed) failed).
    subst (P (now old)) (sym (ap now is ∙ alone.counted_now (noted old call failed) failed ∙ now-noted old call failed)) after)
    (λ (is : new ≡ starved old). subst (P (now old)) (sym (ap now is ∙ alone.starved_now old)) none)
    notes

same_none : (m : Moment) → Same (MayLeave m) (MayLeave m)
same_none m image = (λ left. left, λ left. left)

pub plain_crash : (old new : MemDeskState) (call : Call) (failed : Bool) → changes_nothing call failed ≡ true
    → NotesDiskCall old call failed new → Same (images_of old) (images_of new)
plain_crash old new call failed nothing notes =
    of_call disk_alone (λ m n. Same (MayLeave m) (MayLeave n)) old new call failed notes
    (same_next (now old) call failed nothing) (same_none (now old))

-- a write of which nothing is kept tears nothing
pub too_long_crash : (old new : MemDeskState) (at len : ℕ) (failed : Bool)
    → NotesDiskCall old (TooLong at len) failed new → Follows (Torn at len) (images_of old) (images_of new)
too_long_crash old new at len failed notes image left =
    let was = (plain_crash old new (TooLong at len) failed refl notes image).0 left in
    (image, was, torn_none image at len was.0)

pub write_crash : (old new : MemDeskState) (at : ℕ) (piece : List ℕ) (failed : Bool) → IsMoment (now old)
    → NotesDiskCall old (Write at piece) failed new
    → Follows (Torn at (length piece)) (images_of old) (images_of new)
write_crash old new at piece failed sound notes =
    of_call disk_alone (λ m n. Follows (Torn at (length piece)) (MayLeave m) (MayLeave n)) old new (Write at piece)
    failed notes (write_next (now old) at piece failed sound) (write_none (now old) at (length piece))

pub sync_crash : (old new : MemDeskState) (failed : Bool) → IsMoment (now old) → NotesDiskCall old Sync failed new
    → NoMore (images_of old) (images_of new)
sync_crash old new failed sound notes =
    of_call disk_alone (λ m n. NoMore (MayLeave m) (MayLeave n)) old new Sync failed notes
    (sync_next (now old) failed sound) (λ image left. left)

tell_crash : (old new : MemDeskState) (piece : List ℕ) (failed : Bool) → NotesTell old (Tell piece) failed new
    → Same (images_of old) (images_of new)
tell_crash old new piece failed notes =
    of_call tell_alone (λ m n. Same (MayLeave m) (MayLeave n)) old new (Tell piece) failed notes
    (tell_next (now old) piece failed) (same_none (now old))

pub disk_time : (old new : MemDeskState) (call : Call) (failed : Bool) → NotesDiskCall old call failed new
    → told_of new ≡ told_of old → UsesDisk (state_of old) (state_of new) (images_of new)
disk_time old new call failed notes told = record {
  time = Elapses-weaker (λ image text is. (is.0, ap (λ t. Some t) (sym told) ∙ is.1)) passes;
  told = ap (λ t. Some t) told;
}
  where
    passes : Elapses (state_of old) (state_of new) (IsNow (state_of new))
    passes = ⊎_elim
        (λ is. elapses_push old new (made call failed) (ap (λ d. d.image) is) (ap (λ d. d.calls) is))
        (λ is. elapses_same old new (ap (λ d. d.image) is) (ap (λ d. d.calls) is))
        notes

-- after a call that begins inside the file the calls fit
pub disk_sound : (old new : MemDeskState) (call : Call) (failed : Bool) → IsInside (length (file_of old)) call
    → IsMoment (now old) → NotesDiskCall old call failed new → IsMoment (now new)
disk_sound old new call failed inside sound notes =
    of_call disk_alone (λ m n. IsMoment n) old new call failed notes (moment_next (now old) call failed inside sound) sound

-- a read gives the same after a call that writes nothing
pub plain_reads : (old new : MemDeskState) (call : Call) (failed : Bool) → changes_nothing call failed ≡ true
    → IsMoment (now old) → NotesDiskCall old call failed new → reads_of new ≡ reads_of old
plain_reads old new call failed nothing sound notes =
    let inside = inside_plain (length (file_of old)) call failed nothing in
    let file_is = of_call disk_alone (λ m n. file_at n ≡ file_at m) old new call failed notes
    (plain_file (now old) call failed nothing) refl in
    reads-same old new sound (disk_sound old new call failed inside sound notes) file_is

tell_reads : (old new : MemDeskState) (piece : List ℕ) (failed : Bool) → IsMoment (now old)
    → NotesTell old (Tell piece) failed new → reads_of new ≡ reads_of old
tell_reads old new piece failed sound notes =
    let fits = of_call tell_alone (λ m n. IsMoment n) old new (Tell piece) failed notes
    (moment_next (now old) (Tell piece) failed tt sound) sound in
    let file_is = of_call tell_alone (λ m n. file_at n ≡ file_at m) old new (Tell piece) failed notes
    (tell_file (now old) piece failed) refl in
    reads-same old new sound fits file_is

-- a call that is no tell leaves the text as it was
pub disk_told : (old new : MemDeskState) (call : Call) (failed : Bool) → is_tell call ≡ false
    → NotesDiskCall old call failed new → told_of new ≡ told_of old
disk_told old new call failed not_tell notes =
    of_call disk_alone (λ m n. n.told ≡ m.told) old new call failed notes (told_as_it_was (now old) call failed not_tell) refl

pub plain_told : (old new : MemDeskState) (call : Call) (failed : Bool) → changes_nothing call failed ≡ true
    → NotesDiskCall old call failed new → told_of new ≡ told_of old
plain_told old new call failed nothing notes =
    of_call disk_alone (λ m n. n.told ≡ m.told) old new call failed notes
    (ap (λ m. m.told) (plain_next (now old) call failed nothing)) refl

some_told : (told text : List ℕ) → Some told ≡ Some text → text ≡ told
some_told told text is = cc

-- an image with a text that is told now is one with a text that was being told
telling : (old new : MemDeskState) (piece : List ℕ) → (n : ℕ) × (told_of new ≡ told_of old ++ take n piece)
    → (image text : List ℕ) → IsNow (state_of new) image text → IsTelling (state_of old) (state_of new) piece image text
telling old new piece told image text is =
    (is.0, (told_of old, told.0, refl, some_told (told_of new) text is.1 ∙ told.1))

told_some : (old new : MemDeskState) (piece : List ℕ) (failed : Bool) → NotesTell old (Tell piece) failed new
    → (n : ℕ) × (told_of new ≡ told_of old ++ take n piece)
told_some old new piece failed notes =
    of_call tell_alone (λ m n. (k : ℕ) × (n.told ≡ m.told ++ take k piece)) old new (Tell piece) failed notes
    (told_next (now old) piece failed) (0, sym (append-nil (told_of old)))

tell_time : (old new : MemDeskState) (piece : List ℕ) (failed : Bool) → NotesTell old (Tell piece) failed new
    → Elapses (state_of old) (state_of new) (IsTelling (state_of old) (state_of new) piece)
tell_time old new piece failed notes = ⊎_elim
    (λ is.
    Elapses-weaker (telling old new piece (told_some old new piece failed notes))
    (elapses_push old new (made (Tell piece) failed) (ap (λ d. d.image) is) (ap (λ d. d.calls) is)))
    (λ is. elapses_same old new (ap (λ d. d.image) is) (ap (λ d. d.calls) is))
    notes

not_failed : false ≡ true → ⊥
not_failed is = cc

-- a tell that succeeded was noted, and appended its piece
told_all : {T E : Type 0} (result : Result T E) (old mid new : MemDeskState) (piece : List ℕ) (failed : Bool)
    (notes : Result (Unit {0}) AllocError) → (IsErr result ↔ (IsErr notes ⊎ IsTrue failed))
    → OnOk notes (mid ≡ noted old (Tell piece) failed) → OnOk notes (new ≡ tell_counted mid failed)
    → OnOk result (Appended (Some (told_of old)) piece (Some (told_of new)))
told_all (Err e) old mid new piece failed notes answer ok fed = tt
told_all (Ok x) old mid new piece failed (Err e) answer ok fed = absurd (not_failed (answer.1 (inl refl)))
told_all (Ok x) old mid new piece true (Ok u) answer ok fed = absurd (not_failed (answer.1 (inr refl)))
told_all (Ok x) old mid new piece false (Ok u) answer ok fed =
    ap (λ t. Some t) (ap told_of (fed ∙ ap (λ d. tell_counted d false) ok) ∙ ap (λ m. m.told) (now-noted old (Tell piece) false))

told_partly : {T E : Type 0} (result : Result T E) (old new : MemDeskState) (piece : List ℕ) (failed : Bool)
    → NotesTell old (Tell piece) failed new → OnErr result (AppendedSome (Some (told_of old)) piece (Some (told_of new)))
told_partly (Ok x) old new piece failed notes = tt
told_partly (Err e) old new piece failed notes =
    let told = told_some old new piece failed notes in
    (told.0, ap (λ t. Some t) told.1)

pub tells_by : {T E : Type 0} (result : Result T E) (old mid new : MemDeskState) (piece : List ℕ) (failed : Bool)
    (notes : Result (Unit {0}) AllocError) → (IsErr result ↔ (IsErr notes ⊎ IsTrue failed))
    → OnOk notes (mid ≡ noted old (Tell piece) failed) → OnErr notes (mid ≡ old)
    → OnOk notes (new ≡ tell_counted mid failed) → OnErr notes (new ≡ tell_starved mid) → IsMoment (now old)
    → Tells (state_of old) (state_of new) piece result
tells_by result old mid new piece failed notes answer ok err fed hungry sound =
    let noted_so = settles tell_counted tell_starved old mid new (Tell piece) failed notes ok err fed hungry in
    record {
      time = tell_time old new piece failed noted_so;
      untouched = record {
        reads = tell_reads old new piece failed sound noted_so;
        crash = tell_crash old new piece failed noted_so;
      };
      text = record {
        all = told_all result old mid new piece failed notes answer ok fed;
        partly = told_partly result old new piece failed noted_so;
      };
    }
