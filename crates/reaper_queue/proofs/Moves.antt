-- What a move does where one place alone is the mover's.
use Rattle.std.proofs.Common.{◌≡◌, ℕ, zero, suc, ◌<◌, List, [], ◌∷◌, length, get_or, refl, ap, sym, ◌∙◌, arith, Bool, true, false, cond}
use Rattle.std.proofs.lemmas.List.Edits.{swap_is}
use Rattle.std.specs.Prelude.{nat_lt, swap}
use Rattle.tierra_model.specs.Queue.{error_move, good_move}
use Rattle.reaper_queue.proofs.OnlyAt.{NonePass, OnlyAt}

-- after one more element
pushed : {X : Type 0} (x : X) (xs : List X) (k : ℕ) (d : X) → suc k < length xs → (b : Bool)
    → x ∷ cond b xs (swap xs k (suc k)) ≡ cond b (x ∷ xs) (swap (x ∷ xs) (suc k) (suc (suc k)))
pushed x xs k d h true = refl
pushed x xs k d h false = ap (λ (l : List _). x ∷ l) (sym (swap_is xs k (suc k) x (omega arith) h))

only_within : {X : Type 0} (p : X → Bool) (k : ℕ) (xs : List X) → OnlyAt p k xs → k < length xs
only_within p k [] h = absurd h
only_within p zero (x ∷ xs) h = omega arith
only_within p (suc k) (x ∷ xs) h = omega (arith, only_within p k xs h.1)

module _ {X : Type 0} (m : X → Bool) (e : X → ℕ) where
  error_move-none : (x : X) (xs : List X) → NonePass m xs → error_move m e (x ∷ xs) ≡ x ∷ xs
  error_move-none x [] h = refl
  error_move-none x (y ∷ ys) h = rw h.0 (ap (λ (l : List X). x ∷ l) (error_move-none y ys h.1))

  -- at the top
  pub error_move-top : (xs : List X) → OnlyAt m 0 xs → error_move m e xs ≡ xs
  error_move-top [] h = refl
  error_move-top (x ∷ xs) h = error_move-none x xs h.1

  -- below a creature
  pub error_move-below : (k : ℕ) (d : X) (xs : List X) → OnlyAt m (suc k) xs
      → error_move m e xs ≡ cond (nat_lt (e (get_or xs (suc k) d)) (e (get_or xs k d))) xs (swap xs k (suc k))
  error_move-below k d [] h = absurd h
  error_move-below k d (x ∷ []) h = absurd h.1
  error_move-below zero d (x ∷ y ∷ rest) h = rw h.1.0 refl
  error_move-below (suc k) d (x ∷ y ∷ rest) h =
      rw h.1.0 (ap (λ (l : List X). x ∷ l) (error_move-below k d (y ∷ rest) h.1)
      ∙ pushed x (y ∷ rest) k d (only_within m (suc k) (y ∷ rest) h.1) (nat_lt (e (get_or (y ∷ rest) (suc k) d)) (e (get_or (y ∷ rest) k d))))

  -- at the bottom
  pub good_move-bottom : (k : ℕ) (xs : List X) → OnlyAt m k xs → length xs ≡ suc k → good_move m e xs ≡ xs
  good_move-bottom k [] h l = refl
  good_move-bottom k (x ∷ []) h l = refl
  good_move-bottom zero (x ∷ y ∷ rest) h l = absurd (omega arith)
  good_move-bottom (suc k) (x ∷ y ∷ rest) h l = rw h.0 (ap (λ (l : List X). x ∷ l) (good_move-bottom k (y ∷ rest) h.1 (omega arith)))

  -- above a creature
  pub good_move-above : (k : ℕ) (d : X) (xs : List X) → OnlyAt m k xs → suc k < length xs
      → good_move m e xs ≡ cond (nat_lt (e (get_or xs (suc k) d)) (e (get_or xs k d))) xs (swap xs k (suc k))
  good_move-above k d [] h l = absurd h
  good_move-above k d (x ∷ []) h l = absurd (omega arith)
  good_move-above zero d (x ∷ y ∷ rest) h l = rw h.0 refl
  good_move-above (suc k) d (x ∷ y ∷ rest) h l =
      rw h.0 (ap (λ (l : List X). x ∷ l) (good_move-above k d (y ∷ rest) h.1 (omega arith))
      ∙ pushed x (y ∷ rest) k d (omega arith) (nat_lt (e (get_or (y ∷ rest) (suc k) d)) (e (get_or (y ∷ rest) k d))))
