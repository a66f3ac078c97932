-- What is written of a number that has a width.
use Rattle.std.proofs.Common.{◌≡◌, ◌∙◌, ℕ, ◌-◌, ◌/◌, ◌%◌, ◌^◌, ◌<◌, List, [], ◌∷◌, ◌++◌, Bool, true, false, append-nil, ap, arith, get_or, length, refl, sym}
use Rattle.std.proofs.lemmas.Bool.{eqb-true}
use Rattle.std.proofs.lemmas.Fmt.{hex_byte}
use Rattle.std.proofs.lemmas.List.FromFn.{get_or-range_with_len}
use Rattle.std.proofs.lemmas.List.Sums.{AllPass-from_list_all}
use Rattle.std.specs.Fmt.{char_count, decimal, digit_glyph, digits, format_spec, padded_integral, styled_decimal}
use Rattle.std.specs.List.{range_with_len}
use Rattle.std.specs.Prelude.{replicate, slice_index, ◌==◌}
use Rattle.hex.specs.Hex.{encode_lower, encode_with, lower_digits}
use Rattle.report_text.specs.Dump.{place_text}

-- a width of seven under a zero
padded_to_seven : (ds : List ℕ) → padded_integral (format_spec 32 0 4 7 (2 ^ 64 - 1)) false [] ds ≡ replicate (7 - length ds) 48 ++ ds
unfolding padded_integral char_count
padded_to_seven ds = grind (arith, append-nil)

pub place_is_written : (n : ℕ) → styled_decimal (format_spec 32 0 4 7 (2 ^ 64 - 1)) n ≡ place_text n
place_is_written n = padded_to_seven (decimal n)

-- a digit is the one in the table
glyph-digit : (d : ℕ) → d < 16 → digit_glyph false d ≡ slice_index lower_digits d
glyph-digit d h =
    let is_same : ℕ → Bool = λ k. digit_glyph false k == slice_index lower_digits k in
    let within : d < length (range_with_len 0 16) = h in
    let same : is_same (get_or (range_with_len 0 16) d 0) ≡ true
    = AllPass-from_list_all is_same (range_with_len 0 16) refl d 0 within in
    let here : get_or (range_with_len 0 16) d 0 ≡ d = omega (arith, get_or-range_with_len 0 16 d 0 h) in
    eqb-true _ _ (ap is_same (sym here) ∙ same)

-- two hexadecimal digits
pub cell_is_written : (v : ℕ) → v < 256 → padded_integral (format_spec 32 0 4 2 (2 ^ 64 - 1)) false [] (digits 16 false v) ≡ encode_lower (v ∷ [])
unfolding encode_with
cell_is_written v h =
    let high : v / 16 < 16 = omega arith in
    let low : v % 16 < 16 = omega arith in
    hex_byte false v h ∙ (λ i. glyph-digit (v / 16) high i ∷ glyph-digit (v % 16) low i ∷ [])
