-- Lists of birth numbers.
use Rattle.std.proofs.Common.{◌≡◌, ◌≤◌, ◌<◌, ◌+◌, ◌∙◌, ℕ, zero, suc, Bool, true, false, cond, List, [], ◌∷◌, ap, sym, refl, arith, inl, inr, length}
use Rattle.std.specs.Prelude.{filter, not, ◌==◌}
use Rattle.std.specs.List.{range_with_len}
use Rattle.std.proofs.lemmas.Bool.Decides.{eqb_tells, nat_tests}
use Rattle.tierra_model.specs.Counting.{one_if, times_in}
use Rattle.tierra_model.specs.Sound.{Ordered}

-- ---- numbers in order

-- a number below all of them is not among them
pub ordered-none : (k id : ℕ) (xs : List ℕ) → Ordered k xs → id < k → times_in xs id ≡ 0
ordered-none k id [] o below = refl
ordered-none k id (x ∷ xs) o below =
    let rest = ordered-none (x + 1) id xs o.1 (omega (arith, o.0)) in
    let other : one_if (x == id) ≡ 0 = differs x id (omega (arith, o.0)) in
    omega (arith, rest, other)
  where
    differs : (x id : ℕ) → id < x → one_if (x == id) ≡ 0
    differs x id below = grind (arith, nat_tests)

pub ordered-range : (a n : ℕ) → Ordered a (range_with_len a n)
ordered-range a zero = tt
ordered-range a (suc n) = (omega arith, ordered-range (a + 1) n)

pub ordered-once : (k : ℕ) (xs : List ℕ) (id : ℕ) → Ordered k xs → times_in xs id ≤ 1
ordered-once k [] id o = omega arith
ordered-once k (x ∷ xs) id o = elim (eqb_tells x id) [
  | inl e ↦ (
      let none = ordered-none (x + 1) id xs o.1 (omega (arith, e.1)) in
      let one : one_if (x == id) ≡ 1 = ap one_if e.0 in
      omega (arith, none, one))
  | inr e ↦ (
      let rest = ordered-once (x + 1) xs id o.1 in
      let none : one_if (x == id) ≡ 0 = ap one_if e.0 in
      omega (arith, rest, none))
]

-- the numbers from a on, n of them
pub range-has : (a n id : ℕ) → a ≤ id → id < a + n → times_in (range_with_len a n) id ≡ 1
range-has a zero id from below = absurd (omega arith)
range-has a (suc n) id from below = elim (eqb_tells a id) [
  | inl e ↦ (
      let none = ordered-none (a + 1) id (range_with_len (a + 1) n) (ordered-range (a + 1) n) (omega (arith, e.1)) in
      let one : one_if (a == id) ≡ 1 = ap one_if e.0 in
      omega (arith, none, one))
  | inr e ↦ (
      let rest = range-has (a + 1) n id (omega (arith, e.1)) (omega arith) in
      let none : one_if (a == id) ≡ 0 = ap one_if e.0 in
      omega (arith, rest, none))
]

-- ---- what a filter leaves

passed-one : (p : ℕ → Bool) (x : ℕ) (xs : List ℕ) (id : ℕ) (b : Bool) → p x ≡ b → p id ≡ true → times_in (filter p xs) id ≡ times_in xs id
    → times_in (cond b (x ∷ filter p xs) (filter p xs)) id ≡ one_if (x == id) + times_in xs id
passed-one p x xs id true f e rest = ap (λ (n : ℕ). one_if (x == id) + n) rest
passed-one p x xs id false f e rest = elim (eqb_tells x id) [
  | inl same ↦ (let h : false ≡ true = sym f ∙ ap p same.1 ∙ e in cc)
  | inr other ↦ (let none : one_if (x == id) ≡ 0 = ap one_if other.0 in omega (arith, rest, none))
]

pub times_in-passed : (p : ℕ → Bool) (xs : List ℕ) (id : ℕ) → p id ≡ true → times_in (filter p xs) id ≡ times_in xs id
times_in-passed p [] id e = refl
times_in-passed p (x ∷ xs) id e = passed-one p x xs id (p x) refl e (times_in-passed p xs id e)

failed-one : (p : ℕ → Bool) (x : ℕ) (xs : List ℕ) (id : ℕ) (b : Bool) → p x ≡ b → p id ≡ false → times_in (filter p xs) id ≡ 0
    → times_in (cond b (x ∷ filter p xs) (filter p xs)) id ≡ 0
failed-one p x xs id true f e rest = elim (eqb_tells x id) [
  | inl same ↦ (let h : true ≡ false = sym f ∙ ap p same.1 ∙ e in cc)
  | inr other ↦ (let none : one_if (x == id) ≡ 0 = ap one_if other.0 in omega (arith, rest, none))
]
failed-one p x xs id false f e rest = rest

pub times_in-failed : (p : ℕ → Bool) (xs : List ℕ) (id : ℕ) → p id ≡ false → times_in (filter p xs) id ≡ 0
times_in-failed p [] id e = refl
times_in-failed p (x ∷ xs) id e = failed-one p x xs id (p x) refl e (times_in-failed p xs id e)

pub times_in-fewer : (p : ℕ → Bool) (xs : List ℕ) (id : ℕ) → times_in (filter p xs) id ≤ times_in xs id
times_in-fewer p xs id = go (p id) refl
  where
    go : (b : Bool) → p id ≡ b → times_in (filter p xs) id ≤ times_in xs id
    go true e = omega (arith, times_in-passed p xs id e)
    go false e = omega (arith, times_in-failed p xs id e)

-- a number that is not there is not missed
pub filter-absent : (id : ℕ) (xs : List ℕ) → times_in xs id ≡ 0 → filter (λ x. not (x == id)) xs ≡ xs
filter-absent id [] none = refl
filter-absent id (x ∷ xs) none = elim (eqb_tells x id) [
  | inl e ↦ (let one : one_if (x == id) ≡ 1 = ap one_if e.0 in absurd (omega (arith, none, one)))
  | inr e ↦ (
      let rest : filter (λ y. not (y == id)) xs ≡ xs = filter-absent id xs (omega (arith, none)) in
      ap (λ (b : Bool). cond (not b) (x ∷ filter (λ y. not (y == id)) xs) (filter (λ y. not (y == id)) xs)) e.0 ∙ ap (λ (l : List ℕ). x ∷ l) rest)
]

-- one that is there once is one less
pub length-filter_one : (id : ℕ) (xs : List ℕ) → times_in xs id ≡ 1 → length (filter (λ x. not (x == id)) xs) + 1 ≡ length xs
length-filter_one id [] one = absurd (omega (arith, one))
length-filter_one id (x ∷ xs) one = elim (eqb_tells x id) [
  | inl e ↦ (
      let here : one_if (x == id) ≡ 1 = ap one_if e.0 in
      let rest = filter-absent id xs (omega (arith, one, here)) in
      let less : length (filter (λ y. not (y == id)) (x ∷ xs)) ≡ length (filter (λ y. not (y == id)) xs) =
      ap (λ (b : Bool). length (cond (not b) (x ∷ filter (λ y. not (y == id)) xs) (filter (λ y. not (y == id)) xs))) e.0 in
      omega (arith, less, ap length rest))
  | inr e ↦ (
      let there : one_if (x == id) ≡ 0 = ap one_if e.0 in
      let rest = length-filter_one id xs (omega (arith, one, there)) in
      let more : length (filter (λ y. not (y == id)) (x ∷ xs)) ≡ suc (length (filter (λ y. not (y == id)) xs)) =
      ap (λ (b : Bool). length (cond (not b) (x ∷ filter (λ y. not (y == id)) xs) (filter (λ y. not (y == id)) xs))) e.0 in
      omega (arith, more, rest))
]

pub range-past : (a n id : ℕ) → a + n ≤ id → times_in (range_with_len a n) id ≡ 0
range-past a zero id past = refl
range-past a (suc n) id past =
    (let rest = range-past (a + 1) n id (omega arith) in let other : one_if (a == id) ≡ 0 = differs a id (omega arith) in omega (arith, rest, other))
  where
    differs : (a id : ℕ) → a < id → one_if (a == id) ≡ 0
    differs a id below = grind (arith, nat_tests)

-- where nobody is dropped, all are kept
pub none-left : (p : ℕ → Bool) (xs : List ℕ) → length (filter (λ x. not (p x)) xs) ≡ 0 → filter (λ x. not (p x)) xs ≡ []
none-left p xs e = length-zero (filter (λ x. not (p x)) xs) e
  where
    length-zero : (ys : List ℕ) → length ys ≡ 0 → ys ≡ []
    length-zero [] e = refl
    length-zero (y ∷ ys) e = absurd (omega (arith, e))

pub all-kept : (p : ℕ → Bool) (xs : List ℕ) → length (filter (λ x. not (p x)) xs) ≡ 0 → filter p xs ≡ xs
all-kept p [] e = refl
all-kept p (x ∷ xs) e = one (p x) refl (all-kept p xs)
  where
    dropped : Bool → List ℕ
    dropped b = cond (not b) (x ∷ filter (λ y. not (p y)) xs) (filter (λ y. not (p y)) xs)

    one : (b : Bool) → p x ≡ b → (length (filter (λ y. not (p y)) xs) ≡ 0 → filter p xs ≡ xs) → cond b (x ∷ filter p xs) (filter p xs) ≡ x ∷ xs
    one true is rest = ap (λ (ys : List ℕ). x ∷ ys) (rest (ap (λ (b : Bool). length (dropped b)) (sym is) ∙ e))
    one false is rest = absurd (let h : length (dropped false) ≡ 0 = ap (λ (b : Bool). length (dropped b)) (sym is) ∙ e in omega (arith, h))
