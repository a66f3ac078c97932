-- What a read of a desk in memory gives is an image that a crash may leave.
use Rattle.std.proofs.Common.{refl, ap, subst, ◌≡◌, ◌∙◌, sym, ℕ, ◌<◌, Bool, true, false, if◌then◌else◌, ltb, leb}
use Rattle.std.proofs.Common.{leb-true, le-leb, List, [], ◌∷◌, length, None, Some, IfSome}
use Rattle.std.specs.Bool.{Decides}
use Rattle.std.specs.Simd.Lanes.{all_below}
use Rattle.std.proofs.lemmas.Bool.Decides.{Decides-and, Decides-by_and, Decides-like, Decides-ltb}
use Rattle.desk_io.specs.Desk.{AreBytes}
use Rattle.test_desks.specs.Calls.{Moment, file_at, MayLeave}
use Rattle.test_desks.specs.Fits.{IsInside, grown, Fits, IsMoment, is_inside, do_fit, is_moment}
use Rattle.test_desks.specs.MemDesk.{MemDeskState, now, file_of, images_of, reads_of, TellsFile}
use Rattle.test_desks.specs.declared.call.Call.{Call}
use Rattle.test_desks.specs.declared.call.Call.TheVariants.{Write}
use Rattle.test_desks.specs.declared.call.CallRecord.{CallRecord}
use Rattle.test_desks.specs.CallSteps.{keeps_piece, leaves_with, bytes_with}

bytes-decided : (xs : List ℕ) → Decides (all_below 256 xs) (AreBytes xs)
bytes-decided = Decides-by_and (λ b. ltb b 256) (λ b. b < 256) (all_below 256)
    (λ b. Decides-ltb b 256) refl (λ x xs. refl)

inside-decided : (n : ℕ) (call : Call) → Decides (is_inside n call) (IsInside n call)
inside-decided n (Write at piece) = Decides-and (leb at n) (all_below 256 piece) (leb-true at n, le-leb at n)
    (bytes-decided piece)
inside-decided n _ = (λ _. tt, λ _. refl)

fits-decided : (n : ℕ) (rs : List CallRecord) → Decides (do_fit n rs) (Fits n rs)
fits-decided n [] = (λ _. tt, λ _. refl)
fits-decided n (r ∷ rs) =
    let rest = grown n r.call in
    Decides-and (is_inside n r.call) (do_fit rest rs) (inside-decided n r.call) (fits-decided rest rs)

moment-decided : (m : Moment) → Decides (is_moment m) (IsMoment m)
moment-decided m =
    Decides-like (is_moment m) (λ both. record { bytes = both.0; fits = both.1 }) (λ sound. (sound.bytes, sound.fits))
    (Decides-and (all_below 256 m.durable) (do_fit (length m.durable) m.since) (bytes-decided m.durable)
    (fits-decided (length m.durable) m.since))

-- a desk in memory tells its file
pub reads-told : (d : MemDeskState) → IsMoment (now d) → TellsFile d
reads-told d sound = ap (λ b. if b then Some (file_of d) else None) ((moment-decided (now d)).1 sound)

-- a read gives the same where the file is the same
pub reads-same : (old new : MemDeskState) → IsMoment (now old) → IsMoment (now new) → file_of new ≡ file_of old
    → reads_of new ≡ reads_of old
reads-same old new was is same = reads-told new is ∙ ap (λ f. Some f) same ∙ sym (reads-told old was)

-- what is told of what a read gives is so of the file
pub of-file : (P : List ℕ → Type 0) (d : MemDeskState) → IsMoment (now d) → IfSome (reads_of d) P → P (file_of d)
of-file P d sound is = subst (λ o. IfSome o P) (reads-told d sound) is

pub file-left : (m : Moment) → IsMoment m → MayLeave m (file_at m)
file-left m sound = (
  bytes_with (λ piece. piece) keeps_piece m.durable m.since sound.bytes sound.fits,
  leaves_with (λ piece. piece) keeps_piece m.durable m.since sound.bytes sound.fits,
)

pub read_is_left : (d : MemDeskState) → IfSome (reads_of d) (images_of d)
read_is_left d = told (is_moment (now d)) (moment-decided (now d)).0
  where
    told : (sound : Bool) → (sound ≡ true → IsMoment (now d))
        → IfSome (if sound then Some (file_of d) else None) (images_of d)
    told true is = file-left (now d) (is refl)
    told false is = tt
