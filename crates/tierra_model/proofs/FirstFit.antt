-- A first fit is at the least address where the cells are free.
use Rattle.std.proofs.Common.{◌≡◌, ℕ, zero, suc, ◌+◌, ◌-◌, ◌<◌, ◌≤◌, Bool, true, false, Option, Some, None, arith, refl, ap, ◌∙◌, inl, inr}
use Rattle.std.specs.Prelude.{if◌then◌else◌}
use Rattle.std.proofs.lemmas.Bool.Decides.{nat_tests, eqb_tells}
use Rattle.tierra_model.specs.Room.{count_from, are_free, first_fit_from, first_fit, IsFit, FirstFitIsLeast}

-- each of the k cells from p on is free
abbrev AllFree : (ℕ → Bool) → ℕ → ℕ → Type 0
AllFree owned p k = (q : ℕ) → p ≤ q → q < p + k → owned q ≡ false

counts-free : (owned : ℕ → Bool) (p k : ℕ) → count_from owned p k ≡ 0 → AllFree owned p k
counts-free owned p zero h q low high = absurd (omega arith)
counts-free owned p (suc k) h q low high =
    go (owned p) refl h (counts-free owned (p + 1) k)
  where
    go : (b : Bool) → owned p ≡ b → (if b then 1 else 0) + count_from owned (p + 1) k ≡ 0
        → (count_from owned (p + 1) k ≡ 0 → AllFree owned (p + 1) k) → owned q ≡ false
    go true e h rest = absurd (omega arith)
    go false e h rest = elim (eqb_tells q p) [
      | inl same ↦ ap owned same.1 ∙ e
      | inr other ↦ rest (omega arith) q (omega arith) (omega arith)
    ]

free-counts : (owned : ℕ → Bool) (p k : ℕ) → AllFree owned p k → count_from owned p k ≡ 0
free-counts owned p zero h = refl
free-counts owned p (suc k) h =
    let here : owned p ≡ false = h p (omega arith) (omega arith) in
    let rest : count_from owned (p + 1) k ≡ 0 = free-counts owned (p + 1) k (λ q low high. h q (omega arith) (omega arith)) in
    grind (arith, nat_tests, here, rest)

-- among the k places from p on
abbrev FitFrom : (ℕ → Bool) → ℕ → ℕ → ℕ → Option ℕ → Type 0
FitFrom owned size p k None = (a : ℕ) → p ≤ a → a < p + k → AllFree owned a size → ⊥
FitFrom owned size p k (Some a) =
    (p ≤ a) × (a < p + k) × AllFree owned a size × ((b : ℕ) → p ≤ b → b < a → AllFree owned b size → ⊥)

is_free : (owned : ℕ → Bool) (p k : ℕ) → are_free owned p k ≡ true → AllFree owned p k
is_free owned p k h = counts-free owned p k (grind (arith, nat_tests))

not_free : (owned : ℕ → Bool) (p k : ℕ) → are_free owned p k ≡ false → AllFree owned p k → ⊥
not_free owned p k h free = let none = free-counts owned p k free in grind (arith, nat_tests)

fit_from-least : (owned : ℕ → Bool) (size p k : ℕ) → FitFrom owned size p k (first_fit_from owned size p k)
fit_from-least owned size p zero = λ a low high free. omega arith
fit_from-least owned size p (suc k) = go (are_free owned p size) refl (fit_from-least owned size (p + 1) k)
  where
    later : (o : Option ℕ) → are_free owned p size ≡ false → FitFrom owned size (p + 1) k o → FitFrom owned size p (suc k) o
    later None e f = λ a low high free. elim (eqb_tells a p) [
      | inl same ↦ not_free owned p size e (λ q l h. free q (omega arith) (omega arith))
      | inr other ↦ f a (omega arith) (omega arith) free
    ]
    later (Some a) e f = (
      omega (arith, f.0),
      omega (arith, f.1),
      f.2,
      λ b low high free. elim (eqb_tells b p) [
        | inl same ↦ not_free owned p size e (λ q l h. free q (omega arith) (omega arith))
        | inr other ↦ f.3 b (omega arith) (omega arith) free
      ],
    )

    go : (b : Bool) → are_free owned p size ≡ b → FitFrom owned size (p + 1) k (first_fit_from owned size (p + 1) k)
        → FitFrom owned size p (suc k) (let o : Option ℕ = elim b [ true ↦ Some p | false ↦ first_fit_from owned size (p + 1) k ] in o)
    go true e f = (omega arith, omega arith, is_free owned p size e, λ b low high free. omega arith)
    go false e f = later (first_fit_from owned size (p + 1) k) e f

pub first_fit_is_least : FirstFitIsLeast
first_fit_is_least n owned size = go (first_fit n owned size) (fit_from-least owned size 0 (n + 1 - size))
  where
    go : (o : Option ℕ) → FitFrom owned size 0 (n + 1 - size) o → IsFit n owned size o
    go None f = λ a room. f a (omega arith) (omega (arith, room.0)) room.1
    go (Some a) f = ((omega (arith, f.1), f.2), λ b low room. f.3 b (omega arith) low room.1)
