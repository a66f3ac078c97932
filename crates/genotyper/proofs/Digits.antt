-- Numbers by their digits in a base.
use Rattle.std.proofs.Common.{◌≡◌, ℕ, ◌+◌, ◌-◌, ◌*◌, ◌^◌, ◌<◌, ◌≤◌, List, [], ◌∷◌, ◌++◌, arith, append-nil, get_or, length, length-append, take}
use Rattle.std.proofs.Math.Nat.{mul-le-mul_right, pow-le-pow_right, pow-zero}
use Rattle.std.proofs.lemmas.List.{take_more}
use Rattle.std.proofs.lemmas.Grind.{pow_more}
use Rattle.std.specs.Fmt.{char_count, decimal, format_spec, padded_integral, styled_decimal}
use Rattle.std.specs.Prelude.{false, replicate}
use Rattle.genotyper.specs.Names.{size_text, value_in}

spread : (a p v base d : ℕ) → a * (p * base) + (v * base + d) ≡ (a * p + v) * base + d
spread a p v base d = omega arith

-- one digit more
pub value_in-push : (base first : ℕ) (xs : List ℕ) (x : ℕ) → value_in base first (xs ++ x ∷ []) ≡ value_in base first xs * base + (x - first)
value_in-push base first [] x = rw (pow-zero base) (omega arith)
value_in-push base first (y ∷ ys) x =
    let long : length (ys ++ x ∷ []) ≡ length ys + 1 = omega (arith, length-append ys (x ∷ [])) in
    rw (long, pow_more base (length ys), value_in-push base first ys x) (spread (y - first) (base ^ length ys) (value_in base first ys) base (x - first))

pub value_in-take : (base first : ℕ) (xs : List ℕ) (i v d : ℕ) → i < length xs → v ≡ value_in base first (take i xs) → d ≡ get_or xs i 0 - first
    → v * base + d ≡ value_in base first (take (i + 1) xs)
value_in-take base first xs i v d h is digit =
    rw (take_more xs i 0 h, value_in-push base first (take i xs) (get_or xs i 0), is, digit)

pub digit_fits : (base v i d : ℕ) → v < base ^ i → d < base → v * base + d < base ^ (i + 1)
digit_fits base v i d h k =
    let most : (v + 1) * base ≤ base ^ i * base = mul-le-mul_right base (omega arith) in
    rw (pow_more base i) (omega arith)

-- a power of a base that is no greater than one that fits
pub power_fits : (base i n bound : ℕ) → 0 < base → i ≤ n → base ^ n < bound → base ^ i < bound
power_fits base i n bound b h k = omega (arith, pow-le-pow_right b h)

pub next_power_fits : (base i n bound : ℕ) → 0 < base → i < n → base ^ n < bound → base ^ (i + 1) < bound
next_power_fits base i n bound b h k =
    let more : i + 1 ≤ n = omega arith in
    power_fits base (i + 1) n bound b more k

-- what a width of four under a zero writes
padded_to_four : (ds : List ℕ) → padded_integral (format_spec 32 0 4 4 (2 ^ 64 - 1)) false [] ds ≡ replicate (4 - length ds) 48 ++ ds
unfolding padded_integral char_count
padded_to_four ds = grind (arith, append-nil)

pub size_is_written : (n : ℕ) → styled_decimal (format_spec 32 0 4 4 (2 ^ 64 - 1)) n ≡ size_text n
size_is_written n = padded_to_four (decimal n)
