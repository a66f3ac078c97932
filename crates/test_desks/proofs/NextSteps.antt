-- The moment after one more call.
use Rattle.std.proofs.Common.{◌≡◌, ◌∙◌, refl, sym, ap, subst, ℕ, Bool, true, false, if◌then◌else◌, ◌==◌, List, [], ◌∷◌, ◌++◌, length, take, append-nil}
use Rattle.std.proofs.Math.Seq.{take-length}
use Rattle.std.proofs.lemmas.List.Sums.{fold_push}
use Rattle.desk_io.specs.Desk.{Torn, Follows, NoMore, Same}
use Rattle.test_desks.specs.Calls.{is_tell, made, written_with, file_with, AfterCrash, CrashLeaves, Moment, file_at, next, MayLeave, picked_piece, crash_image}
use Rattle.test_desks.specs.Fits.{IsInside, IsMoment}
use Rattle.test_desks.specs.Kept.{changes_nothing}
use Rattle.test_desks.specs.declared.call.Call.{Call}
use Rattle.test_desks.specs.declared.call.Call.TheVariants.{Write, Sync, Tell}
use Rattle.test_desks.specs.declared.call.CallRecord.{CallRecord}
use Rattle.test_desks.specs.CallSteps.{keeps_piece, keeps_picked, leaves_with, leaves_without, bytes_with, fits_push, left_bytes}
use Rattle.test_desks.proofs.CrashSteps.{leaves_push, leaves_pop}
use Rattle.test_desks.specs.Splices.{torn_none}

-- the moment with one more call since the file was made durable
abbrev pub pushed : Moment → CallRecord → List ℕ → Moment
pushed m r told = record { durable = m.durable; since = m.since ++ r ∷ []; told = told }

pub file_at-pushed : (m : Moment) (r : CallRecord) (told : List ℕ)
    → file_at (pushed m r told) ≡ written_with (λ piece. piece) (file_at m) r.call
file_at-pushed m r told = fold_push (λ file q. written_with (λ piece. piece) file q.call) m.durable m.since r

pub moment_push : (m : Moment) (r : CallRecord) (told : List ℕ) → IsInside (length (file_at m)) r.call → IsMoment m
    → IsMoment (pushed m r told)
moment_push m r told inside sound =
    record { bytes = sound.bytes; fits = fits_push (λ piece. piece) keeps_piece m.durable m.since r sound.fits inside }

-- after one more call that begins inside the file
pub moment_next : (m : Moment) (call : Call) (failed : Bool) → IsInside (length (file_at m)) call → IsMoment m
    → IsMoment (next m (made call failed))
moment_next m Sync false inside sound =
    record { bytes = bytes_with (λ piece. piece) keeps_piece m.durable m.since sound.bytes sound.fits; fits = tt }
moment_next m Sync true inside sound = moment_push m (made Sync true) m.told inside sound
moment_next m (Tell piece) true inside sound = moment_push m (made (Tell piece) true) m.told inside sound
moment_next m (Tell piece) false inside sound =
    moment_push m (made (Tell piece) false) (m.told ++ piece) inside sound
moment_next m call failed inside sound = moment_push m (made call failed) m.told inside sound

pub inside_plain : (n : ℕ) (call : Call) (failed : Bool) → changes_nothing call failed ≡ true → IsInside n call
inside_plain n (Write at piece) failed nothing = cc
inside_plain n _ failed nothing = tt

pub plain_next : (m : Moment) (call : Call) (failed : Bool) → changes_nothing call failed ≡ true
    → next m (made call failed) ≡ pushed m (made call failed) m.told
plain_next m (Write at piece) failed nothing = cc
plain_next m Sync true nothing = refl
plain_next m Sync false nothing = cc
plain_next m (Tell piece) true nothing = refl
plain_next m (Tell piece) false nothing = cc
plain_next m _ failed nothing = refl

pub written_nothing : (file : List ℕ) (call : Call) (failed : Bool) → changes_nothing call failed ≡ true
    → written_with (λ piece. piece) file call ≡ file
written_nothing file (Write at piece) failed nothing = cc
written_nothing file _ failed nothing = refl

pub plain_file : (m : Moment) (call : Call) (failed : Bool) → changes_nothing call failed ≡ true
    → file_at (next m (made call failed)) ≡ file_at m
plain_file m call failed nothing =
    ap file_at (plain_next m call failed nothing) ∙ file_at-pushed m (made call failed) m.told
    ∙ written_nothing (file_at m) call failed nothing

pub tell_file : (m : Moment) (piece : List ℕ) (failed : Bool) → file_at (next m (made (Tell piece) failed)) ≡ file_at m
tell_file m piece true = plain_file m (Tell piece) true refl
tell_file m piece false = file_at-pushed m (made (Tell piece) false) (m.told ++ piece)

pub told_as_it_was : (m : Moment) (call : Call) (failed : Bool) → is_tell call ≡ false
    → (next m (made call failed)).told ≡ m.told
told_as_it_was m (Tell piece) failed not_tell = cc
told_as_it_was m Sync true not_tell = refl
told_as_it_was m Sync false not_tell = refl
told_as_it_was m _ failed not_tell = refl

-- a call of which a crash leaves nothing
record LeavesFile (call : Call) : Type 0 where
  only : (file image : List ℕ) → AfterCrash file call image → image ≡ file
  stays : (file : List ℕ) → AfterCrash file call file

leaves_file : (call : Call) (failed : Bool) → changes_nothing call failed ≡ true → LeavesFile call
leaves_file (Write at piece) failed nothing = cc
leaves_file _ failed nothing = record { only = λ file image e. e; stays = λ file. refl }

same_pushed : (m : Moment) (r : CallRecord) (told : List ℕ) → LeavesFile r.call
    → Same (MayLeave m) (MayLeave (pushed m r told))
same_pushed m r told leaves image = (back, forth)
  where
    back : MayLeave (pushed m r told) image → MayLeave m image
    back left =
        let was = leaves_pop m.durable m.since r image left.1 in
        (left.0, subst (CrashLeaves m.durable m.since) (sym (leaves.only was.0 image was.2)) was.1)

    forth : MayLeave m image → MayLeave (pushed m r told) image
    forth left = (left.0, leaves_push m.durable m.since r image image left.1 (leaves.stays image))

pub same_next : (m : Moment) (call : Call) (failed : Bool) → changes_nothing call failed ≡ true
    → Same (MayLeave m) (MayLeave (next m (made call failed)))
same_next m call failed nothing =
    subst (λ n. Same (MayLeave m) (MayLeave n)) (sym (plain_next m call failed nothing))
    (same_pushed m (made call failed) m.told (leaves_file call failed nothing))

pub write_next : (m : Moment) (at : ℕ) (piece : List ℕ) (failed : Bool) → IsMoment m
    → Follows (Torn at (length piece)) (MayLeave m) (MayLeave (next m (made (Write at piece) failed)))
write_next m at piece failed sound image left =
    let was = leaves_pop m.durable m.since (made (Write at piece) failed) image left.1 in
    (was.0, (left_bytes m.durable m.since was.0 sound.bytes was.1, was.1), was.2)

-- the same where nothing was noted
pub write_none : (m : Moment) (at n : ℕ) → Follows (Torn at n) (MayLeave m) (MayLeave m)
write_none m at n image left = (image, left, torn_none image at n left.0)

pub sync_next : (m : Moment) (failed : Bool) → IsMoment m
    → NoMore (MayLeave m) (MayLeave (next m (made Sync failed)))
sync_next m true sound image left = (same_next m Sync true refl image).0 left
sync_next m false sound image left =
    let whole = leaves_with (λ piece. piece) keeps_piece m.durable m.since sound.bytes sound.fits in
    (left.0, subst (CrashLeaves m.durable m.since) (sym left.1) whole)

pub tell_next : (m : Moment) (piece : List ℕ) (failed : Bool)
    → Same (MayLeave m) (MayLeave (next m (made (Tell piece) failed)))
tell_next m piece true = same_next m (Tell piece) true refl
tell_next m piece false =
    let leaves : LeavesFile (Tell piece) = record { only = λ file image e. e; stays = λ file. refl } in
    same_pushed m (made (Tell piece) false) (m.told ++ piece) leaves

pub told_next : (m : Moment) (piece : List ℕ) (failed : Bool)
    → (n : ℕ) × ((next m (made (Tell piece) failed)).told ≡ m.told ++ take n piece)
told_next m piece true = (0, sym (append-nil m.told))
told_next m piece false = (length piece, ap (λ t. m.told ++ t) (sym (take-length piece)))

-- each image that is picked is one that a crash may leave
pub crash_image_left : (pick : ℕ) (m : Moment) → IsMoment m → MayLeave m (crash_image pick m)
crash_image_left pick m sound = chosen (pick == 0)
  where
    chosen : (none : Bool)
        → MayLeave m (if none then m.durable else file_with (picked_piece pick) m.durable m.since)
    chosen true = (sound.bytes, leaves_without m.durable m.since sound.bytes)
    chosen false = (
      bytes_with (picked_piece pick) (keeps_picked pick) m.durable m.since sound.bytes sound.fits,
      leaves_with (picked_piece pick) (keeps_picked pick) m.durable m.since sound.bytes sound.fits,
    )
