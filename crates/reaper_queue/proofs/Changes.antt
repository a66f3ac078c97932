-- What a queue becomes by an error, by a good move and by a death of the creature at a place.
use Rattle.std.proofs.Common.{◌≡◌, ℕ, zero, suc, ◌+◌, ◌<◌, ◌≤◌, List, [], ◌∷◌, length, get_or, set, refl, ap, sym, ◌∙◌, arith, add-one, subst, remove, Bool}
use Rattle.std.proofs.Common.{true, false, cond}
use Rattle.std.proofs.lemmas.Bool.{lt-ltb, le-ltb}
use Rattle.std.proofs.lemmas.List.{get_or_read, length-map}
use Rattle.tierra_model.specs.Counting.{times_in}
use Rattle.std.specs.Prelude.{filter, nat_lt, not, slice_index, swap, ◌==◌}
use Rattle.tierra_model.specs.Queue.{error_move, good_move}
use Rattle.reaper_queue.specs.Reaper.{is_of, errors_of, errors_in, with_error}
use Rattle.reaper_queue.proofs.Found.{id_at}
use Rattle.reaper_queue.proofs.OnlyAt.{OnlyAt, only_of, map-only, filter-only}
use Rattle.reaper_queue.proofs.Moves.{error_move-top, error_move-below, good_move-bottom, good_move-above}
use Rattle.reaper_queue.specs.Standing.{IsOnce, StandsAt}
use Rattle.reaper_queue.proofs.Once.{ids_of-with_error, once_error_move}

only : (xs : List (ℕ × ℕ)) (id k : ℕ) → StandsAt xs id k → OnlyAt (is_of id) k xs
only xs id k s = only_of id k xs (s.once id) s.within (sym (id_at xs k) ∙ s.here)

-- with one more error
with_error-at : (xs : List (ℕ × ℕ)) (id k : ℕ) → StandsAt xs id k → with_error id xs ≡ set xs k (id, (get_or xs k (0, 0)).1 + 1)
with_error-at xs id k s =
    map-only (is_of id) (λ x. (x.0, x.1 + 1)) k (0, 0) xs (only xs id k s)
    ∙ ap (λ (n : ℕ). set xs k (n, (get_or xs k (0, 0)).1 + 1)) (sym (id_at xs k) ∙ s.here)

-- ---- a creature that stands at k moves

module _ (xs : List (ℕ × ℕ)) (id k : ℕ) (s : StandsAt xs id k) where
  pub up-top : k ≡ 0 → xs ≡ error_move (is_of id) errors_of xs
  up-top e = sym (error_move-top (is_of id) errors_of xs (subst (λ (n : ℕ). OnlyAt (is_of id) n xs) e (only xs id k s)))

  up-below : (j : ℕ) (d : ℕ × ℕ) → j + 1 ≡ k
      → error_move (is_of id) errors_of xs ≡ cond (nat_lt (get_or xs k d).1 (get_or xs j d).1) xs (swap xs j (j + 1))
  up-below j d e =
      let next : k ≡ suc j = sym e ∙ add-one j in
      let at : OnlyAt (is_of id) (suc j) xs = subst (λ (n : ℕ). OnlyAt (is_of id) n xs) next (only xs id k s) in
      rw (next, add-one) (error_move-below (is_of id) errors_of j d xs at)

  pub up-stays : (j : ℕ) (mine upper : ℕ × ℕ) → j + 1 ≡ k → mine ≡ get_or xs k mine → upper ≡ get_or xs j upper → mine.1 < upper.1
      → xs ≡ error_move (is_of id) errors_of xs
  up-stays j mine upper e m u h =
      let read : mine ≡ get_or xs k upper = get_or_read xs k mine s.within m upper in
      let less : nat_lt (get_or xs k upper).1 (get_or xs j upper).1 ≡ true = rw (← read, ← u) (lt-ltb mine.1 upper.1 h) in
      sym (up-below j upper e ∙ ap (λ (b : Bool). cond b xs (swap xs j (j + 1))) less)

  pub up-moves : (j : ℕ) (mine upper : ℕ × ℕ) → j + 1 ≡ k → mine ≡ get_or xs k mine → upper ≡ get_or xs j upper → upper.1 ≤ mine.1
      → swap xs j (j + 1) ≡ error_move (is_of id) errors_of xs
  up-moves j mine upper e m u h =
      let read : mine ≡ get_or xs k upper = get_or_read xs k mine s.within m upper in
      let less : nat_lt (get_or xs k upper).1 (get_or xs j upper).1 ≡ false = rw (← read, ← u) (le-ltb mine.1 upper.1 h) in
      sym (up-below j upper e ∙ ap (λ (b : Bool). cond b xs (swap xs j (j + 1))) less)

  pub down-bottom : length xs ≤ k + 1 → xs ≡ good_move (is_of id) errors_of xs
  down-bottom h = sym (good_move-bottom (is_of id) errors_of k xs (only xs id k s) (let w : k < length xs = s.within in omega arith))

  down-above : (d : ℕ × ℕ) → k + 1 < length xs
      → good_move (is_of id) errors_of xs ≡ cond (nat_lt (get_or xs (k + 1) d).1 (get_or xs k d).1) xs (swap xs k (k + 1))
  down-above d h = rw add-one (good_move-above (is_of id) errors_of k d xs (only xs id k s) (omega arith))

  pub down-stays : (mine lower : ℕ × ℕ) → mine ≡ get_or xs k mine → lower ≡ get_or xs (k + 1) lower → k + 1 < length xs → lower.1 < mine.1
      → xs ≡ good_move (is_of id) errors_of xs
  down-stays mine lower m l within h =
      let upper : mine ≡ get_or xs k lower = get_or_read xs k mine s.within m lower in
      let less : nat_lt (get_or xs (k + 1) lower).1 (get_or xs k lower).1 ≡ true = rw (← upper, ← l) (lt-ltb lower.1 mine.1 h) in
      sym (down-above lower within ∙ ap (λ (b : Bool). cond b xs (swap xs k (k + 1))) less)

  pub down-moves : (mine lower : ℕ × ℕ) → mine ≡ get_or xs k mine → lower ≡ get_or xs (k + 1) lower → k + 1 < length xs → mine.1 ≤ lower.1
      → swap xs k (k + 1) ≡ good_move (is_of id) errors_of xs
  down-moves mine lower m l within h =
      let upper : mine ≡ get_or xs k lower = get_or_read xs k mine s.within m lower in
      let less : nat_lt (get_or xs (k + 1) lower).1 (get_or xs k lower).1 ≡ false = rw (← upper, ← l) (le-ltb lower.1 mine.1 h) in
      sym (down-above lower within ∙ ap (λ (b : Bool). cond b xs (swap xs k (k + 1))) less)

  -- a death
  pub remove-filter : remove xs k ≡ filter (λ x. not (x.0 == id)) xs
  remove-filter = sym (filter-only (is_of id) k xs (only xs id k s))

-- ---- one error more

errors_in-only : (id k : ℕ) (d : ℕ × ℕ) (xs : List (ℕ × ℕ)) → OnlyAt (is_of id) k xs → errors_in id xs ≡ (get_or xs k d).1
errors_in-only id k d [] h = absurd h
errors_in-only id zero d (x ∷ xs) h = rw h.0 refl
errors_in-only id (suc k) d (x ∷ xs) h = rw h.0 (errors_in-only id k d xs h.1)

raised : (xs : List (ℕ × ℕ)) (id k : ℕ) → StandsAt xs id k → StandsAt (with_error id xs) id k
raised xs id k s = record {
  once = λ x. subst (λ (l : List ℕ). times_in l x ≤ 1) (sym (ids_of-with_error id xs)) (s.once x);
  within = rw length-map s.within;
  here = ap (λ (l : List ℕ). slice_index l k) (ids_of-with_error id xs) ∙ s.here;
}

module _ (xs : List (ℕ × ℕ)) (id k : ℕ) (s : StandsAt xs id k) (old : ℕ × ℕ) (is : old ≡ get_or xs k old) where
  his : old.0 ≡ id
  his = ap (λ (x : ℕ × ℕ). x.0) (get_or_read xs k old s.within is (0, 0)) ∙ sym (id_at xs k) ∙ s.here

  pub raised-at : with_error id xs ≡ set xs k (id, old.1 + 1)
  raised-at =
      map-only (is_of id) (λ x. (x.0, x.1 + 1)) k old xs (only xs id k s)
      ∙ ap (λ (x : ℕ × ℕ). set xs k (x.0, x.1 + 1)) (sym is)
      ∙ ap (λ (n : ℕ). set xs k (n, old.1 + 1)) his

  pub stands-raised : StandsAt (set xs k (id, old.1 + 1)) id k
  stands-raised = subst (λ (l : List (ℕ × ℕ)). StandsAt l id k) raised-at (raised xs id k s)

  -- the count that is raised
  pub count-at : errors_in id xs ≡ old.1
  count-at = errors_in-only id k old xs (only xs id k s) ∙ ap (λ (x : ℕ × ℕ). x.1) (sym is)

-- ---- nobody stands twice afterwards

pub once-error : (xs : List (ℕ × ℕ)) (id k : ℕ) → StandsAt xs id k → IsOnce (error_move (is_of id) errors_of (with_error id xs))
once-error xs id k s = once_error_move id (with_error id xs) ((raised xs id k s).once)
