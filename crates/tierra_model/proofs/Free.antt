-- The free list has the free cells, and where a block fits depends on them alone.
use Rattle.std.proofs.Common.{◌≡◌, ℕ, zero, suc, ◌+◌, ◌-◌, ◌*◌, ◌<◌, ◌≤◌, Bool, true, false, List, [], refl, ◌∙◌, ap, arith, inl, inr}
use Rattle.std.specs.Prelude.{Some, None, Option, ◌==◌, ◌||◌, ◌&&◌, nat_lt, nat_le}
use Rattle.std.proofs.lemmas.Bool.Decides.{nat_tests, eqb_tells}
use Rattle.tierra_model.specs.declared.creatures.Block.{Block}
use Rattle.tierra_model.specs.declared.parameters.Settings.{Settings}
use Rattle.tierra_model.specs.Room.{count_from, first_fit_from, first_fit, filled, room_for}
use Rattle.tierra_model.specs.FreeList.{with_run, runs_from, runs_of, is_in_some}

-- q is one of the cells from low up to high
abbrev between : ℕ → ℕ → ℕ → Bool
between low high q = nat_le low q && nat_lt q high

grown_in : (p size : ℕ) (rest : List Block) (q : ℕ) → size ≤ p
    → is_in_some (with_run p size rest) q ≡ (between (p - size) p q || is_in_some rest q)
grown_in p zero rest q h = grind (arith, nat_tests)
grown_in p (suc size) rest q h = grind (arith, nat_tests)

runs_step : (test : ℕ → Bool) (size p k q : ℕ) → size ≤ p
    → is_in_some (runs_from test (size + 1) (p + 1) k) q ≡ (between (p + 1 - (size + 1)) (p + 1) q || (between (p + 1) (p + 1 + k) q && test q))
    → is_in_some (runs_from test 0 (p + 1) k) q ≡ (between (p + 1 - 0) (p + 1) q || (between (p + 1) (p + 1 + k) q && test q))
    → is_in_some (runs_from test size p (suc k)) q ≡ (between (p - size) p q || (between p (p + suc k) q && test q))
runs_step test size p k q h more none = elim (eqb_tells q p) [
  | inl e ↦ (let t : test q ≡ test p = ap test e.1 in grind (arith, nat_tests, grown_in p size (runs_from test 0 (p + 1) k) q h))
  | inr e ↦ grind (arith, nat_tests, grown_in p size (runs_from test 0 (p + 1) k) q h)
]

runs_from_in : (test : ℕ → Bool) (size p k q : ℕ) → size ≤ p
    → is_in_some (runs_from test size p k) q ≡ (between (p - size) p q || (between p (p + k) q && test q))
runs_from_in test size p zero q h = grind (arith, nat_tests, grown_in p size [] q h)
runs_from_in test size p (suc k) q h =
    let more = runs_from_in test (size + 1) (p + 1) k q (omega arith) in
    let none = runs_from_in test 0 (p + 1) k q (omega arith) in
    runs_step test size p k q h more none

pub runs_of_in : (n : ℕ) (test : ℕ → Bool) (q : ℕ) → q < n → is_in_some (runs_of n test) q ≡ test q
runs_of_in n test q h = grind (arith, nat_tests, runs_from_in test 0 0 n q)

-- ---- counting and fitting look at the cells below n alone

abbrev pub AlikeBelow : ℕ → (ℕ → Bool) → (ℕ → Bool) → Type 0
AlikeBelow n s t = (q : ℕ) → q < n → s q ≡ t q

pub count_from-alike : (n : ℕ) (s t : ℕ → Bool) → AlikeBelow n s t → (p k : ℕ) → p + k ≤ n → count_from s p k ≡ count_from t p k
count_from-alike n s t a p zero h = refl
count_from-alike n s t a p (suc k) h =
    let e : s p ≡ t p = a p (omega arith) in
    let r : count_from s (p + 1) k ≡ count_from t (p + 1) k = count_from-alike n s t a (p + 1) k (omega arith) in
    cc

pub first_fit_from-alike : (n size : ℕ) (s t : ℕ → Bool) → AlikeBelow n s t → (p k : ℕ) → (0 < k → p + k + size ≤ n + 1)
    → first_fit_from s size p k ≡ first_fit_from t size p k
first_fit_from-alike n size s t a p zero h = refl
first_fit_from-alike n size s t a p (suc k) h =
    let room : p + suc k + size ≤ n + 1 = h (omega arith) in
    let e : count_from s p size ≡ count_from t p size = count_from-alike n s t a p size (omega arith) in
    let r : first_fit_from s size (p + 1) k ≡ first_fit_from t size (p + 1) k = first_fit_from-alike n size s t a (p + 1) k (λ _. omega arith) in
    ap (λ (c : ℕ). let o : Option ℕ = elim (c == 0) [ true ↦ Some p | false ↦ first_fit_from s size (p + 1) k ] in o) e
    ∙ ap (λ (r : Option ℕ). let o : Option ℕ = elim (count_from t p size == 0) [ true ↦ Some p | false ↦ r ] in o) r

-- the cells where it fits are free
pub count_from_none : (s : ℕ → Bool) (p k q : ℕ) → count_from s p k ≡ 0 → p ≤ q → q < p + k → s q ≡ false
count_from_none s p zero q h l m = absurd (omega arith)
count_from_none s p (suc k) q h l m = grind (arith, nat_tests, count_from_none s (p + 1) k q)

pub fit_from_free : (s : ℕ → Bool) (size p k at : ℕ) → first_fit_from s size p k ≡ Some at
    → (at < p + k) × ((q : ℕ) → at ≤ q → q < at + size → s q ≡ false)
fit_from_free s size p zero at h = cc
fit_from_free s size p (suc k) at h = go (count_from s p size == 0) refl h (fit_from_free s size (p + 1) k at)
  where
    go : (b : Bool) → (count_from s p size == 0) ≡ b
        → (let o : Option ℕ = elim b [ true ↦ Some p | false ↦ first_fit_from s size (p + 1) k ] in o) ≡ Some at
        → (first_fit_from s size (p + 1) k ≡ Some at → (at < p + 1 + k) × ((q : ℕ) → at ≤ q → q < at + size → s q ≡ false))
        → (at < p + suc k) × ((q : ℕ) → at ≤ q → q < at + size → s q ≡ false)
    go true e f ih =
        let same : p ≡ at = cc in
        let free : count_from s p size ≡ 0 = grind (arith, nat_tests) in
        (omega arith, λ q l m. count_from_none s p size q free (omega arith) (omega arith))
    go false e f ih = ((let r = ih f in omega (arith, r.0)), (ih f).1)

pub room_for-alike : (set : Settings) (s t : ℕ → Bool) (size : ℕ) → 1 ≤ size → AlikeBelow set.soup_size s t → room_for set s size ≡ room_for set t size
room_for-alike set s t size one a =
    ap (λ (c : ℕ). let o : Option ℕ =
    elim (nat_le ((c + size) * 100) (set.fill_percent * set.soup_size)) [ true ↦ first_fit set.soup_size s size | false ↦ None ] in o)
    (count_from-alike set.soup_size s t a 0 set.soup_size (omega arith))
    ∙ ap (λ (r : Option ℕ). let o : Option ℕ =
    elim (nat_le ((filled set.soup_size t + size) * 100) (set.fill_percent * set.soup_size)) [ true ↦ r | false ↦ None ] in o)
    (first_fit_from-alike set.soup_size size s t a 0 (set.soup_size + 1 - size) (λ some. omega arith))

pub room_for_free : (set : Settings) (s : ℕ → Bool) (size at : ℕ) → room_for set s size ≡ Some at
    → (at + size ≤ set.soup_size) × ((q : ℕ) → at ≤ q → q < at + size → s q ≡ false)
room_for_free set s size at h =
    go (nat_le ((filled set.soup_size s + size) * 100) (set.fill_percent * set.soup_size)) h
  where
    go : (b : Bool) → (let o : Option ℕ = elim b [ true ↦ first_fit set.soup_size s size | false ↦ None ] in o) ≡ Some at
        → (at + size ≤ set.soup_size) × ((q : ℕ) → at ≤ q → q < at + size → s q ≡ false)
    go true e = let f = fit_from_free s size 0 (set.soup_size + 1 - size) at e in (omega (arith, f.0), f.1)
    go false e = cc
