-- What the parts of a name's text are.
use Rattle.std.proofs.Common.{◌≡◌, ℕ, ◌+◌, ◌-◌, ◌*◌, ◌^◌, ◌<◌, ◌≤◌, Bool, true, false, cond, List, [], ◌∷◌, refl, ap, arith, length, inl, inr, lit<, take}
use Rattle.std.proofs.Math.Nat.{pow-le-pow_right, mul-le-mul_right}
use Rattle.std.proofs.lemmas.Bool.{and_parts, cases_lt}
use Rattle.std.proofs.lemmas.Bool.Decides.{nat_tests}
use Rattle.std.proofs.lemmas.List.Elements.{All-nil, All-cons}
use Rattle.std.proofs.lemmas.List.Sums.{take_while-cons}
use Rattle.std.specs.Char.{is_ascii_digit}
use Rattle.std.specs.Prelude.{All, nat_le, slice_index, ◌⊎◌}
use Rattle.std.specs.Str.{all_ascii_digits}
use Rattle.genotyper.specs.Names.{digits_of, is_size, is_word, value_in}
use Rattle.tierra_model.specs.declared.limits.TheConstants.{MOST_SIZE}

-- ---- letters

pub word_fits : (bs : List ℕ) → is_word bs ≡ true → 26 ^ length bs < 2 ^ 63
word_fits bs h =
    let short : length bs ≤ 13 = grind (arith, nat_tests) in
    let most : 26 ^ length bs ≤ 26 ^ 13 = pow-le-pow_right (lit< tt) short in
    omega arith

-- ---- digits

in_range : (x : ℕ) → is_ascii_digit x ≡ true → (48 ≤ x) × (x < 48 + 10)
in_range x h =
    let parts = and_parts (nat_le 48 x) (nat_le x 57) h in
    let low : 48 ≤ x = grind (arith, nat_tests) in
    let high : x ≤ 57 = grind (arith, nat_tests) in
    (low, omega arith)

pub digit_range : (ds : List ℕ) → all_ascii_digits ds ≡ true → All (λ d. (48 ≤ d) × (d < 48 + 10)) ds
digit_range [] h = All-nil (λ d. (48 ≤ d) × (d < 48 + 10))
digit_range (x ∷ xs) h =
    let parts = and_parts (is_ascii_digit x) (all_ascii_digits xs) h in
    All-cons (λ d. (48 ≤ d) × (d < 48 + 10)) x xs (in_range x parts.0) (digit_range xs parts.1)

pub short_is_no_size : (ds : List ℕ) → length ds < 4 → is_size ds ≡ false
short_is_no_size ds h = grind (arith, nat_tests)

pub filled_is_no_size : (ds : List ℕ) → length ds ≡ 5 → slice_index ds 0 ≡ 48 → is_size ds ≡ false
filled_is_no_size ds h z = grind (arith, nat_tests)

pub long_is_no_size : (ds : List ℕ) → all_ascii_digits ds ≡ true → 5 < length ds → is_size ds ≡ false
long_is_no_size [] d h = absurd (omega arith)
long_is_no_size (x ∷ xs) d h = go (cases_lt 48 x)
  where
    go : (48 < x) ⊎ (x ≤ 48) → is_size (x ∷ xs) ≡ false
    go (inl more) =
        let five : 5 ≤ length xs = omega arith in
        let unit : 10 ^ 5 ≤ 10 ^ length xs = pow-le-pow_right (lit< tt) five in
        let digit : 1 * 10 ^ length xs ≤ (x - 48) * 10 ^ length xs = mul-le-mul_right (10 ^ length xs) (omega arith) in
        let great : MOST_SIZE < value_in 10 48 (x ∷ xs) = omega arith in
        grind (arith, nat_tests)
    go (inr less) =
        let low = (in_range x (and_parts (is_ascii_digit x) (all_ascii_digits xs) d).0).0 in
        let first : x ≡ 48 = omega arith in
        grind (arith, nat_tests)

pub take-digits_of : (text : List ℕ) → take (length (digits_of text)) text ≡ digits_of text
take-digits_of [] = refl
take-digits_of (x ∷ xs) = rw (take_while-cons is_ascii_digit x xs) (go (is_ascii_digit x) (take-digits_of xs))
  where
    go : (b : Bool) → take (length (digits_of xs)) xs ≡ digits_of xs
        → take (length (cond b (x ∷ digits_of xs) [])) (x ∷ xs) ≡ cond b (x ∷ digits_of xs) []
    go true ih = ap (λ ys. x ∷ ys) ih
    go false ih = refl

pub digits_of_are_digits : (text : List ℕ) → all_ascii_digits (digits_of text) ≡ true
digits_of_are_digits [] = refl
digits_of_are_digits (x ∷ xs) = rw (take_while-cons is_ascii_digit x xs) (go (is_ascii_digit x) refl (digits_of_are_digits xs))
  where
    go : (b : Bool) → is_ascii_digit x ≡ b → all_ascii_digits (digits_of xs) ≡ true → all_ascii_digits (cond b (x ∷ digits_of xs) []) ≡ true
    go true e ih = rw (e, ih)
    go false e ih = refl

pub digits_come_first : (text : List ℕ) → all_ascii_digits (take (length (digits_of text)) text) ≡ true
digits_come_first text = rw (take-digits_of text) (digits_of_are_digits text)

pub ruleset sizes = (digit_range, short_is_no_size, filled_is_no_size, long_is_no_size)
