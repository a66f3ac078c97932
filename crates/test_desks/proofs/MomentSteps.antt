-- The moments of a desk in memory after one more call.
use Rattle.std.proofs.Common.{◌≡◌, ◌⊎◌, inl, inr, ⊎_elim, sym, ap, ap₂, subst, arith, List, [], ◌∷◌, ◌++◌, ℕ, ◌<◌, ◌≤◌, length, take, Some, length-append}
use Rattle.std.proofs.lemmas.List.{take-append-le}
use Rattle.std.proofs.lemmas.Bool.{cases_lt}
use Rattle.std.proofs.Math.Seq.{take-length}
use Rattle.desk_io.specs.Desk.{Elapses, IsNow, WithText}
use Rattle.test_desks.specs.Calls.{Moment, MayLeave}
use Rattle.test_desks.specs.MemDesk.{MemDeskState, IsAt, IsSince, after_calls, now, moments_of, state_of}
use Rattle.test_desks.specs.declared.call.CallRecord.{CallRecord}

module _ (first : List ℕ) (calls : List CallRecord) (r : CallRecord) where
  -- a moment before the last call is one that was there before it
  earlier : (k : ℕ) → k ≤ length calls
      → after_calls first (take k (calls ++ r ∷ [])) ≡ after_calls first (take k calls)
  earlier k le = ap (after_calls first) (take-append-le k calls (r ∷ []) le)

  -- and one after it is now
  last : (k : ℕ) → k ≤ length (calls ++ r ∷ []) → length calls < k
      → take k (calls ++ r ∷ []) ≡ calls ++ r ∷ []
  last k until lt =
      let k_is : k ≡ length (calls ++ r ∷ []) = omega (arith, length-append calls (r ∷ [])) in
      rw (k_is, take-length)

  keeps_push : (t : ℕ) (image text : List ℕ) → IsSince first calls t image text
      → IsSince first (calls ++ r ∷ []) t image text
  keeps_push t image text since = record {
    k = since.k;
    from = since.from;
    until = omega (arith, length-append calls (r ∷ []));
    at = subst (λ m. IsAt m image text) (sym (earlier since.k since.until)) since.at;
  }

  further_push : (t : ℕ) (image text : List ℕ) → IsSince first (calls ++ r ∷ []) t image text
      → IsSince first calls t image text ⊎ IsAt (after_calls first (calls ++ r ∷ [])) image text
  further_push t image text since = ⊎_elim after before (cases_lt (length calls) since.k)
    where
      after : length calls < since.k
          → IsSince first calls t image text ⊎ IsAt (after_calls first (calls ++ r ∷ [])) image text
      after lt =
          let here = last since.k since.until lt in
          inr (subst (λ cs. IsAt (after_calls first cs) image text) here since.at)

      before : since.k ≤ length calls
          → IsSince first calls t image text ⊎ IsAt (after_calls first (calls ++ r ∷ [])) image text
      before le =
          let at = subst (λ m. IsAt m image text) (earlier since.k le) since.at in
          inl (record { k = since.k; from = since.from; until = le; at = at })

now_at : (m : Moment) (image text : List ℕ) → IsAt m image text → WithText (Some m.told) (MayLeave m) image text
now_at m image text at = (at.leaves, ap (λ t. Some t) (sym at.told))

-- one more call, which may be any
pub elapses_push : (old new : MemDeskState) (r : CallRecord) → new.image ≡ old.image
    → new.calls ≡ old.calls ++ r ∷ [] → Elapses (state_of old) (state_of new) (IsNow (state_of new))
elapses_push old new r image_is calls_is = record {
  later = omega (arith, length-append old.calls (r ∷ []), ap length calls_is);
  keeps = λ t image text le was. back t image text (keeps_push old.image old.calls r t image text was);
  further = λ t image text le is. ⊎_elim
      (λ was. inl was)
      (λ at. inr (now_at (now new) image text (subst (λ m. IsAt m image text) now_is at)))
      (further_push old.image old.calls r t image text (forth t image text is));
}
  where
    now_is : after_calls old.image (old.calls ++ r ∷ []) ≡ now new
    now_is = ap₂ after_calls (sym image_is) (sym calls_is)

    forth : (t : ℕ) (image text : List ℕ) → moments_of new t image text
        → IsSince old.image (old.calls ++ r ∷ []) t image text
    forth t image text is =
        let first = subst (λ f. IsSince f new.calls t image text) image_is is in
        subst (λ calls. IsSince old.image calls t image text) calls_is first

    back : (t : ℕ) (image text : List ℕ) → IsSince old.image (old.calls ++ r ∷ []) t image text
        → moments_of new t image text
    back t image text is =
        let calls = subst (λ cs. IsSince old.image cs t image text) (sym calls_is) is in
        subst (λ f. IsSince f new.calls t image text) (sym image_is) calls

-- no more call: nothing was noted
pub elapses_same : {P : List ℕ → List ℕ → Type 0} (old new : MemDeskState) → new.image ≡ old.image
    → new.calls ≡ old.calls → Elapses (state_of old) (state_of new) P
elapses_same old new image_is calls_is = record {
  later = omega (arith, ap length calls_is);
  keeps = λ t image text le was. subst (λ is. is) (since_is t image text) was;
  further = λ t image text le is. inl (subst (λ is. is) (sym (since_is t image text)) is);
}
  where
    since_is : (t : ℕ) (image text : List ℕ) → moments_of old t image text ≡ moments_of new t image text
    since_is t image text = ap₂ (λ first calls. IsSince first calls t image text) (sym image_is) (sym calls_is)
