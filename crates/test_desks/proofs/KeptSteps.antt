-- What a desk in memory keeps after one more call.
use Rattle.std.proofs.Common.{◌≡◌, ◌∙◌, refl, sym, ap, subst, arith, ℕ, ◌+◌, ◌<◌, ◌≤◌, w8, get_or, Bool, true, false, cond, if◌then◌else◌, List, [], ◌∷◌, ◌++◌}
use Rattle.std.proofs.Common.{length, drop, length-append, true≢false, add-zero}
use Rattle.std.proofs.Common as std
use Rattle.std.proofs.lemmas.List.{drop-append-le}
use Rattle.std.proofs.lemmas.List.Sums.{fold_push, sum_by_push}
use Rattle.std.proofs.lemmas.List.Elements.{All-from_get_or}
use Rattle.std.proofs.Math.Seq.{drop-length}
use Rattle.desk_io.specs.Desk.{AreBytes, spliced}
use Rattle.test_desks.specs.Calls.{made, is_tell, written_with, file_at, Moment, next}
use Rattle.test_desks.specs.Fits.{IsInside}
use Rattle.test_desks.specs.Kept.{changes_nothing, IsKept}
use Rattle.test_desks.specs.MemDesk.{after_calls, tells_in}
use Rattle.test_desks.specs.declared.call.Call.{Call}
use Rattle.test_desks.specs.declared.call.Call.TheVariants.{Write, Sync, Tell}
use Rattle.test_desks.specs.declared.call.CallRecord.{CallRecord}
use Rattle.test_desks.proofs.NextSteps.{pushed, file_at-pushed, moment_push, moment_next, inside_plain, plain_next, written_nothing}

-- what a slice of bytes has are bytes
pub are_bytes : (xs : List ℕ) → ((i : ℕ) → std.Fits w8 (get_or xs i 0)) → AreBytes xs
are_bytes xs fit = All-from_get_or (λ b. b < 256) xs 0 (λ i lt. (fit i).fits)

tells_in-push : (calls : List CallRecord) (r : CallRecord)
    → tells_in (calls ++ r ∷ []) ≡ tells_in calls + (if is_tell r.call then 1 else 0)
tells_in-push calls r = sum_by_push (λ q. cond (is_tell q.call) 1 0) calls r

-- any call but a sync that succeeds
kept_pushed : (calls : List CallRecord) (m : Moment) (durable file told new_file new_told text : List ℕ)
    (synced tells new_tells : ℕ) (r : CallRecord) → IsInside (length (file_at m)) r.call
    → new_file ≡ written_with (λ piece. piece) file r.call → new_told ≡ text
    → new_tells ≡ tells + (if is_tell r.call then 1 else 0) → IsKept calls m durable file told synced tells
    → IsKept (calls ++ r ∷ []) (pushed m r text) durable new_file new_told synced new_tells
kept_pushed calls m durable file told new_file new_told text synced tells new_tells r inside file_is told_is
    tells_is kept = record {
      durable_is = kept.durable_is;
      file_is =
          file_is ∙ ap (λ f. written_with (λ piece. piece) f r.call) kept.file_is ∙ sym (file_at-pushed m r text);
      told_is = told_is;
      since_is = ap (λ s. s ++ r ∷ []) kept.since_is ∙ sym (drop-append-le synced calls (r ∷ []) kept.synced_most);
      synced_most = omega (arith, length-append calls (r ∷ []), kept.synced_most);
      tells_are =
          tells_is ∙ ap (λ n. n + (if is_tell r.call then 1 else 0)) kept.tells_are ∙ sym (tells_in-push calls r);
      sound = moment_push m r text inside kept.sound;
    }

after-push : (first : List ℕ) (calls : List CallRecord) (r : CallRecord)
    → after_calls first (calls ++ r ∷ []) ≡ next (after_calls first calls) r
after-push first calls r = fold_push next (record { durable = first; since = []; told = [] }) calls r

abbrev Kept : List ℕ → List CallRecord → List ℕ → List ℕ → List ℕ → ℕ → ℕ → Type 0
Kept first calls durable file told synced tells =
    IsKept calls (after_calls first calls) durable file told synced tells

from_next : (first : List ℕ) (calls new : List CallRecord) (r : CallRecord) (m : Moment)
    (durable file told : List ℕ) (synced tells : ℕ) → new ≡ calls ++ r ∷ []
    → next (after_calls first calls) r ≡ m → IsKept (calls ++ r ∷ []) m durable file told synced tells
    → Kept first new durable file told synced tells
from_next first calls new r m durable file told synced tells new_is m_is kept =
    let now_is = sym (after-push first calls r ∙ m_is) in
    subst (λ cs. Kept first cs durable file told synced tells) (sym new_is)
    (subst (λ n. IsKept (calls ++ r ∷ []) n durable file told synced tells) now_is kept)

pub kept_plain : (first : List ℕ) (calls new : List CallRecord) (call : Call) (failed : Bool)
    (durable file told : List ℕ) (synced tells new_tells : ℕ) → new ≡ calls ++ made call failed ∷ []
    → changes_nothing call failed ≡ true → new_tells ≡ tells + (if is_tell call then 1 else 0)
    → Kept first calls durable file told synced tells → Kept first new durable file told synced new_tells
kept_plain first calls new call failed durable file told synced tells new_tells new_is nothing tells_is kept =
    let r = made call failed in
    let m = after_calls first calls in
    let inside = inside_plain (length (file_at m)) call failed nothing in
    let file_is = sym (written_nothing file call failed nothing) in
    from_next first calls new r (pushed m r m.told) durable file told synced new_tells new_is
    (plain_next m call failed nothing)
    (kept_pushed calls m durable file told file told m.told synced tells new_tells r inside file_is kept.told_is
    tells_is kept)

pub kept_write : (first : List ℕ) (calls new : List CallRecord) (at : ℕ) (piece : List ℕ) (failed : Bool)
    (durable file told new_file : List ℕ) (synced tells : ℕ) → new ≡ calls ++ made (Write at piece) failed ∷ []
    → at ≤ length file → AreBytes piece → new_file ≡ spliced file at piece
    → Kept first calls durable file told synced tells → Kept first new durable new_file told synced tells
kept_write first calls new at piece failed durable file told new_file synced tells new_is le are file_is kept =
    let r = made (Write at piece) failed in
    let m = after_calls first calls in
    let inside : at ≤ length (file_at m) = subst (λ f. at ≤ length f) kept.file_is le in
    let tells_is = sym (add-zero tells) in
    from_next first calls new r (pushed m r m.told) durable new_file told synced tells new_is refl
    (kept_pushed calls m durable file told new_file told m.told synced tells tells r (inside, are) file_is
    kept.told_is tells_is kept)

pub kept_tell : (first : List ℕ) (calls new : List CallRecord) (piece : List ℕ)
    (durable file told new_told : List ℕ) (synced tells : ℕ) → new ≡ calls ++ made (Tell piece) false ∷ []
    → new_told ≡ told ++ piece
    → Kept first calls durable file told synced tells → Kept first new durable file new_told synced (tells + 1)
kept_tell first calls new piece durable file told new_told synced tells new_is told_is kept =
    let r = made (Tell piece) false in
    let m = after_calls first calls in
    let text_is = told_is ∙ ap (λ t. t ++ piece) kept.told_is in
    let text = m.told ++ piece in
    from_next first calls new r (pushed m r text) durable file new_told synced (tells + 1) new_is refl
    (kept_pushed calls m durable file told file new_told text synced tells (tells + 1) r tt refl text_is refl kept)

pub kept_sync : (first : List ℕ) (calls new : List CallRecord) (durable file told : List ℕ)
    (synced new_synced tells : ℕ) → new ≡ calls ++ made Sync false ∷ [] → new_synced ≡ length new
    → Kept first calls durable file told synced tells → Kept first new file file told new_synced tells
kept_sync first calls new durable file told synced new_synced tells new_is synced_is kept =
    let r = made Sync false in
    let m = after_calls first calls in
    let synced_are = synced_is ∙ ap length new_is in
    let none_since = subst (λ n. drop n (calls ++ r ∷ []) ≡ []) (sym synced_are) (drop-length (calls ++ r ∷ [])) in
    let synced_moment : Moment = record { durable = file_at m; since = []; told = m.told } in
    from_next first calls new r synced_moment file file told new_synced tells new_is refl (record {
      durable_is = kept.file_is;
      file_is = kept.file_is;
      told_is = kept.told_is;
      since_is = sym none_since;
      synced_most = omega (arith, synced_is, ap length new_is);
      tells_are = kept.tells_are ∙ sym (tells_in-push calls r ∙ add-zero (tells_in calls));
      sound = moment_next m Sync false tt kept.sound;
    })
