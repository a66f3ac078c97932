-- The candidates at one distance, and at the next and those after it.
use Rattle.std.proofs.Common.{◌≡◌, ℕ, zero, suc, ◌+◌, ◌-◌, ◌%◌, ◌<◌, ◌≤◌, ◌⊎◌, inl, inr, sym, ◌∙◌, ap, arith}
use Rattle.std.proofs.Math.Nat.{add-mod_right, mod-add-mod, mod-eq_of_lt, mod-lt, mod_self}
use Rattle.std.proofs.lemmas.Bool.{cases_lt}
use Rattle.tierra_model.specs.Ring.{forward, backward}
use Rattle.template_search.specs.Reaching.{Reaches}

forward-next : (n p k a : ℕ) → a ≡ forward n p k → (a + 1) % n ≡ forward n p (k + 1)
forward-next n p k a e =
    ap (λ (x : ℕ). (x + 1) % n) e ∙ mod-add-mod (p + k) n 1 ∙ ap (λ (x : ℕ). x % n) (omega arith)

-- a place is told by the one after it
place_after : (n a : ℕ) → a < n → ((a + 1 < n) × ((a + 1) % n ≡ a + 1)) ⊎ ((a + 1 ≡ n) × ((a + 1) % n ≡ 0))
place_after n a h = elim (cases_lt (a + 1) n) [
  | inl k ↦ inl (k, mod-eq_of_lt k)
  | inr k ↦ (let e : a + 1 ≡ n = omega arith in inr (e, ap (λ (x : ℕ). x % n) e ∙ mod_self n))
]

before_same : (n a b : ℕ) → a < n → b < n → (a + 1) % n ≡ (b + 1) % n → a ≡ b
before_same n a b h k e = elim (place_after n a h) [
  | inl x ↦ elim (place_after n b k) [ inl y ↦ omega arith | inr y ↦ omega arith ]
  | inr x ↦ elim (place_after n b k) [ inl y ↦ omega arith | inr y ↦ omega arith ]
]

backward-next : (n p k : ℕ) → 0 < n → (backward n p (k + 1) + 1) % n ≡ backward n p k
backward-next n p k h =
    mod-add-mod (p + (n - (k + 1) % n)) n 1
    ∙ elim (place_after n (k % n) (mod-lt k h)) [
      | inl x ↦ ap (λ (y : ℕ). y % n) (let e : (k + 1) % n ≡ k % n + 1 = sym (mod-add-mod k n 1) ∙ x.1 in omega arith)
      | inr x ↦
          (let e : (k + 1) % n ≡ 0 = sym (mod-add-mod k n 1) ∙ x.1 in
          let a : p + (n - (k + 1) % n) + 1 ≡ p + 1 + n = omega arith in
          let b : p + 1 ≡ p + (n - k % n) = omega arith in
          ap (λ (y : ℕ). y % n) a ∙ add-mod_right (p + 1) n ∙ ap (λ (y : ℕ). y % n) b)
    ]

pub reaches_next : (n ip t d a b next previous : ℕ) → 0 < n → previous < n → next ≡ (a + 1) % n → (previous + 1) % n ≡ b
    → Reaches n ip t d a b → Reaches n ip t (d + 1) next previous
reaches_next n ip t d a b next previous h l e f r =
    let k : t + d + 1 ≡ t + (d + 1) = omega arith in
    record {
      ahead = e ∙ forward-next n ip (t + d) a r.ahead ∙ ap (forward n ip) k;
      behind = before_same n previous (backward n (ip + 1) (t + d + 1)) l (mod-lt (ip + 1 + (n - (t + d + 1) % n)) h)
          (f ∙ r.behind ∙ sym (backward-next n (ip + 1) (t + d) h)) ∙ ap (backward n (ip + 1)) k;
    }

-- and those k distances on, where neither side goes round
pub reaches_straight : (n ip t d a b k : ℕ) → a + k < n → k ≤ b → b < n → Reaches n ip t d a b → Reaches n ip t (k + d) (a + k) (b - k)
reaches_straight n ip t d a b zero h l m r =
    let e : 0 + d ≡ d = omega arith in
    let f : a + 0 ≡ a = omega arith in
    let g : b - 0 ≡ b = omega arith in
    rw (e, f, g) r
reaches_straight n ip t d a b (suc k) h l m r =
    let before = reaches_straight n ip t d a b k (omega arith) (omega arith) m r in
    let e : suc k + d ≡ k + d + 1 = omega arith in
    let same_next : a + suc k ≡ a + k + 1 = omega arith in
    let same_previous : b - suc k + 1 ≡ b - k = omega arith in
    let next : a + suc k ≡ (a + k + 1) % n = sym (ap (λ (x : ℕ). x % n) (sym same_next) ∙ mod-eq_of_lt h) in
    let previous : (b - suc k + 1) % n ≡ b - k = ap (λ (x : ℕ). x % n) same_previous ∙ mod-eq_of_lt (omega arith) in
    rw e (reaches_next n ip t (k + d) (a + k) (b - k) (a + suc k) (b - suc k) (omega arith) (omega arith) next previous before)
