-- Lists read by place, and functions changed at one place.
use Rattle.std.proofs.Common.{◌≡◌, ◌≢◌, ℕ, zero, suc, ◌+◌, ◌<◌, ◌⊎◌, inl, inr, ⊎_elim, List, [], ◌∷◌, ◌++◌, length, get_or, set, sym, refl, ap, ◌∙◌, subst}
use Rattle.std.proofs.Common.{arith}
use Rattle.std.specs.Prelude.{sum, sum_by}
use mathlib.Core.Option.{some, some-injective, some-ne-none}
use native.Mathlib.Decide.{ℕ_discrete}
use lib.ListN.{get_elem?}
use Rattle.std.proofs.lemmas.List.Sums.{sum_by-set}

abbrev pick : {P : Type 0} → Dec P → ℕ → ℕ → ℕ
pick (yes _) a b = a
pick (no _) a b = b

-- the function, but with c at i
pub put : (ℕ → ℕ) → ℕ → ℕ → ℕ → ℕ
put f i c j = pick (ℕ_discrete j i) c (f j)

pub put_here : (f : ℕ → ℕ) (i c j : ℕ) → j ≡ i → put f i c j ≡ c
unfolding put
put_here f i c j e = go (ℕ_discrete j i)
  where
    go : (d : Dec (j ≡ i)) → pick d c (f j) ≡ c
    go (yes _) = refl
    go (no n) = absurd (n e)

pub put_else : (f : ℕ → ℕ) (i c j : ℕ) → j ≢ i → put f i c j ≡ f j
unfolding put
put_else f i c j other = go (ℕ_discrete j i)
  where
    go : (d : Dec (j ≡ i)) → pick d c (f j) ≡ f j
    go (yes e) = absurd (other e)
    go (no _) = refl

module _ {A : Type 0} where
  pub inside : (l : List A) (i : ℕ) (a : A) → get_elem? l i ≡ some a → i < length l
  inside [] i a e = absurd (some-ne-none a (sym e))
  inside (x ∷ xs) zero a e = omega arith
  inside (x ∷ xs) (suc i) a e = let h = inside xs i a e in omega arith

  read_at : (l : List A) (i : ℕ) (a d : A) → get_elem? l i ≡ some a → get_or l i d ≡ a
  read_at [] i a d e = absurd (some-ne-none a (sym e))
  read_at (x ∷ xs) zero a d e = some-injective x a e
  read_at (x ∷ xs) (suc i) a d e = read_at xs i a d e

  -- two reads of one place agree
  pub same_at : (l : List A) (i j : ℕ) (a b : A) → i ≡ j → get_elem? l i ≡ some a → get_elem? l j ≡ some b → a ≡ b
  same_at l i j a b e p q = some-injective a b (sym p ∙ (ap (get_elem? l) e ∙ q))

  -- a sum after one change
  pub sum_at : (f : A → ℕ) (l : List A) (i : ℕ) (a b : A) → get_elem? l i ≡ some a → sum_by f (set l i b) + f a ≡ sum_by f l + f b
  sum_at f l i a b e =
      subst (λ (x : A). sum_by f (set l i b) + f x ≡ sum_by f l + f b) (read_at l i a a e) (sum_by-set f l i b a (inside l i a e))

  pub snoc_at : (l : List A) (a b : A) (j : ℕ) → get_elem? (l ++ a ∷ []) j ≡ some b → (get_elem? l j ≡ some b) ⊎ ((j ≡ length l) × (a ≡ b))
  snoc_at [] a b zero e = inr (refl, some-injective a b e)
  snoc_at [] a b (suc j) e = absurd (some-ne-none b (sym e))
  snoc_at (x ∷ xs) a b zero e = inl e
  snoc_at (x ∷ xs) a b (suc j) e = ⊎_elim (λ h. inl h) (λ h. let k = h.0 in inr (omega arith, h.1)) (snoc_at xs a b j e)

  pub set_one : (l : List A) (a : A) → length l ≡ 1 → set l 0 a ≡ a ∷ []
  set_one [] a e = absurd (omega arith)
  set_one (x ∷ []) a e = refl
  set_one (x ∷ y ∷ l) a e = absurd (omega arith)

  pub one_at : (a b : A) (j : ℕ) → get_elem? (a ∷ []) j ≡ some b → (j ≡ 0) × (a ≡ b)
  one_at a b zero e = (refl, some-injective a b e)
  one_at a b (suc j) e = absurd (some-ne-none b (sym e))

pub sum_set : (l : List ℕ) (i n : ℕ) → i < length l → sum (set l i n) + get_or l i 0 ≡ sum l + n
sum_set l i n h = sum_by-set (λ (x : ℕ). x) l i n 0 h
