-- Sizes and their digits: each way back.
use Rattle.std.proofs.Common.{Bool, eq-eqb, ◌≡◌, ◌≢◌, ℕ, zero, suc, ◌+◌, ◌-◌, ◌^◌, ◌<◌, ◌≤◌, true, false, List, [], ◌∷◌, ◌++◌, refl, sym, ◌∙◌, ap, arith, rules}
use Rattle.std.proofs.Common.{inl, inr, length, length-append, lit<}
use Rattle.std.proofs.lemmas.Bool.{and_parts, cases_lt}
use Rattle.std.proofs.lemmas.Bool.Decides.{nat_tests}
use Rattle.std.proofs.lemmas.Fmt.{decimal-digits_value, digits_decimal, digits_value-decimal, first_decimal}
use Rattle.std.proofs.lemmas.List.{length-replicate}
use Rattle.std.proofs.lemmas.Str.Parse.{IsNumeralModel, numerals_by_weight, tells_all_ascii_digits}
use Rattle.std.specs.Char.{is_ascii_digit}
use Rattle.std.specs.Fmt.{decimal}
use Rattle.std.specs.Prelude.{nat_le, not, replicate, slice_index, ◌==◌, ◌||◌, ◌⊎◌}
use Rattle.std.specs.Str.{all_ascii_digits}
use Rattle.genotyper.specs.Names.{is_size, size_text, value_in}
use Rattle.tierra_model.specs.declared.limits.TheConstants.{MOST_SIZE}

own : IsNumeralModel (λ ds. all_ascii_digits ds ≡ true) (value_in 10 48)
own = numerals_by_weight (λ ds. all_ascii_digits ds ≡ true) tells_all_ascii_digits (value_in 10 48) (search rules)

-- ---- zeros on the left

digits-zeros : (k : ℕ) (ds : List ℕ) → all_ascii_digits ds ≡ true → all_ascii_digits (replicate k 48 ++ ds) ≡ true
digits-zeros zero ds h = h
digits-zeros (suc k) ds h = digits-zeros k ds h

value-zeros : (k : ℕ) (ds : List ℕ) → value_in 10 48 (replicate k 48 ++ ds) ≡ value_in 10 48 ds
value-zeros zero ds = refl
value-zeros (suc k) ds = omega (arith, value-zeros k ds)

-- digits are zeros before the decimal of their value
pub record Fills (ds : List ℕ) : Type 0 where
  pub zeros : ℕ
  pub filled : ds ≡ replicate zeros 48 ++ decimal (value_in 10 48 ds)

digit_low : (x : ℕ) → is_ascii_digit x ≡ true → 48 ≤ x
digit_low x h =
    let parts = and_parts (nat_le 48 x) (nat_le x 57) h in
    grind (arith, nat_tests)

fills : (x : ℕ) (xs : List ℕ) → all_ascii_digits (x ∷ xs) ≡ true → value_in 10 48 (x ∷ xs) < 2 ^ 64 → Fills (x ∷ xs)
fills x [] h k = record { zeros = 0; filled = sym (decimal-digits_value own (x ∷ []) h (lit< tt) (λ _. refl) k) }
fills x (y ∷ ys) h k = go (cases_lt 48 x) (λ r l. fills y ys r l)
  where
    go : (48 < x) ⊎ (x ≤ 48) → (all_ascii_digits (y ∷ ys) ≡ true → value_in 10 48 (y ∷ ys) < 2 ^ 64 → Fills (y ∷ ys)) → Fills (x ∷ y ∷ ys)
    go (inl more) ih = record { zeros = 0; filled = sym (decimal-digits_value own (x ∷ y ∷ ys) h (omega arith) (λ z. absurd (omega arith)) k) }
    go (inr less) ih =
        let parts = and_parts (is_ascii_digit x) (all_ascii_digits (y ∷ ys)) h in
        let low : 48 ≤ x = (digit_low x parts.0) in
        let first : x ≡ 48 = omega arith in
        let none : x - 48 ≡ 0 = omega arith in
        let same : value_in 10 48 (x ∷ y ∷ ys) ≡ value_in 10 48 (y ∷ ys) = rw none (omega arith) in
        let rest = ih parts.1 (omega arith) in
        record {
          zeros = suc rest.zeros;
          filled = ap (λ c. c ∷ y ∷ ys) first ∙ ap (λ ds. 48 ∷ ds) rest.filled ∙ ap (λ v. 48 ∷ (replicate rest.zeros 48 ++ decimal v)) (sym same);
        }

-- ---- the text of a size

pub digits-size_text : (n : ℕ) → n < 2 ^ 64 → all_ascii_digits (size_text n) ≡ true
digits-size_text n h = digits-zeros (4 - length (decimal n)) (decimal n) (digits_decimal own n h)

pub value-size_text : (n : ℕ) → n < 2 ^ 64 → value_in 10 48 (size_text n) ≡ n
value-size_text n h = value-zeros (4 - length (decimal n)) (decimal n) ∙ digits_value-decimal own n h

length-size_text : (n : ℕ) → length (size_text n) ≡ (4 - length (decimal n)) + length (decimal n)
length-size_text n =
    omega (arith, length-append (replicate (4 - length (decimal n)) 48) (decimal n), length-replicate {A = ℕ} (4 - length (decimal n)) 48)

or_left : (a b : Bool) → a ≡ true → (a || b) ≡ true
or_left true b h = refl
or_left false b h = cc

or_right : (a b : Bool) → b ≡ true → (a || b) ≡ true
or_right true b h = refl
or_right false b h = h

starts_well : (n : ℕ) → 1 ≤ n → n < 2 ^ 64 → (length (size_text n) == 4 || not (slice_index (size_text n) 0 == 48)) ≡ true
starts_well n h k = go (cases_lt 4 (length (decimal n)))
  where
    go : (4 < length (decimal n)) ⊎ (length (decimal n) ≤ 4) → (length (size_text n) == 4 || not (slice_index (size_text n) 0 == 48)) ≡ true
    go (inl long) =
        let none : 4 - length (decimal n) ≡ 0 = omega arith in
        let bare : size_text n ≡ decimal n = ap (λ z. replicate z 48 ++ decimal n) none in
        let first : 48 < slice_index (decimal n) 0 = first_decimal n h k in
        let other : (slice_index (decimal n) 0 == 48) ≡ false = grind (arith, nat_tests) in
        let fills_out : not (slice_index (size_text n) 0 == 48) ≡ true = ap (λ ds. not (slice_index ds 0 == 48)) bare ∙ ap not other in
        or_right _ _ fills_out
    go (inr short) =
        let four : length (size_text n) ≡ 4 = omega (arith, length-size_text n) in
        let is_four : (length (size_text n) == 4) ≡ true = eq-eqb (length (size_text n)) 4 four in
        or_left _ _ is_four

pub is_size-size_text : (n : ℕ) → 1 ≤ n → n ≤ MOST_SIZE → is_size (size_text n) ≡ true
is_size-size_text n h k =
    let small : n < 2 ^ 64 = omega arith in
    let long : nat_le 4 (length (size_text n)) ≡ true = search (rules, length-size_text n) in
    let one : nat_le 1 n ≡ true = grind (arith, nat_tests) in
    let most : nat_le n MOST_SIZE ≡ true = grind (arith, nat_tests) in
    rw (long, starts_well n h small, value-size_text n small, one, most)

-- ---- digits that are a size

starts : (x : ℕ) (xs : List ℕ) → is_size (x ∷ xs) ≡ true → (length (x ∷ xs) ≡ 4) ⊎ ((4 < length (x ∷ xs)) × (x ≢ 48))
starts x xs h = go (cases_lt 4 (length (x ∷ xs)))
  where
    go : (4 < length (x ∷ xs)) ⊎ (length (x ∷ xs) ≤ 4) → (length (x ∷ xs) ≡ 4) ⊎ ((4 < length (x ∷ xs)) × (x ≢ 48))
    go (inl long) = inr (long, λ z. grind (arith, nat_tests))
    go (inr short) =
        let least : 4 ≤ length (x ∷ xs) = grind (arith, nat_tests) in
        inl (omega arith)

no_zeros : (z x : ℕ) (xs ds : List ℕ) → x ∷ xs ≡ replicate z 48 ++ ds → x ≢ 48 → z ≡ 0
no_zeros zero x xs ds e h = refl
no_zeros (suc z) x xs ds e h =
    let first : x ≡ 48 = ap (λ ys. slice_index ys 0) e in
    absurd (h first)

pub size_text-value : (ds : List ℕ) → all_ascii_digits ds ≡ true → is_size ds ≡ true → size_text (value_in 10 48 ds) ≡ ds
size_text-value [] h k = cc
size_text-value (x ∷ xs) h k =
    let small : value_in 10 48 (x ∷ xs) ≤ MOST_SIZE = grind (arith, nat_tests) in
    let f = fills x xs h (omega arith) in
    go f.zeros (decimal (value_in 10 48 (x ∷ xs))) f.filled (starts x xs k)
  where
    go : (z : ℕ) (ds : List ℕ) → x ∷ xs ≡ replicate z 48 ++ ds → (length (x ∷ xs) ≡ 4) ⊎ ((4 < length (x ∷ xs)) × (x ≢ 48))
        → replicate (4 - length ds) 48 ++ ds ≡ x ∷ xs
    go z ds e s =
        let long : length (x ∷ xs) ≡ z + length ds = ap (λ ys. length ys) e ∙ omega (arith, length-append (replicate z 48) ds, length-replicate {A = ℕ} z 48) in
        let zeros : 4 - length ds ≡ z = (elim s [ inl four ↦ omega arith | inr p ↦ omega (arith, p.0, no_zeros z x xs ds e p.1) ]) in
        ap (λ n. replicate n 48 ++ ds) zeros ∙ sym e
