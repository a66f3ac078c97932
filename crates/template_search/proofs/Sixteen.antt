-- Sixteen candidates at once, each in a lane.
use Rattle.std.proofs.Common.{◌≡◌, ℕ, ◌+◌, ◌-◌, ◌*◌, ◌%◌, ◌^◌, ◌<◌, ◌≤◌, Bool, true, false, cond, leb, List, map, replicate, refl, sym, ◌∙◌, ap, arith, get_or, length, subst, inl, inr, w8, w64}
use Rattle.std.specs.Prelude.{bit_or, bit_xor, min, slice_index}
use Rattle.std.specs.Int.{bit_at, leading_zeros, trailing_zeros}
use Rattle.std.specs.Int.Count.{count_leading_zeros, leading_unique}
use Rattle.std.specs.Int.Bits.{xor_assoc, xor_self, xor_zero_r}
use Rattle.std.specs.Simd.Lanes.{chunk, mask_l, top, zip2}
use Rattle.std.proofs.lemmas.Bool.{cases_lt, leb-false}
use Rattle.std.proofs.lemmas.Grind.{get_or_default_zero}
use Rattle.std.proofs.lemmas.List.{length-map}
use Rattle.std.proofs.lemmas.Nat.{le_or_l, le_or_r, leading_length, or_lt, xor_lt}
use Rattle.std.proofs.lemmas.Nat.Bits.{bit_at-trailing_zeros, bit_at_above}
use Rattle.std.proofs.lemmas.Simd.{bit_mask_l, get_or-chunk, get_or-replicate, get_or-zip2, length-chunk, length-replicate, length-zip2, map-map, mask_l-lt, mask_l-mod, tops_compared, zip2_splat, zip2_splat_left}
use Rattle.std.proofs.Math.ListN.{get_or-map}
use Rattle.template_search.specs.Openings.{AreUnlike, Differs}
use Rattle.template_search.proofs.Words.{other_nop}

module _ (vs row : List ℕ) (place : ℕ) (nops : (j : ℕ) → j < length vs → slice_index vs j < 2) (bytes : (j : ℕ) → slice_index row j < 2 ^ 8) where
  -- cell `at` of each candidate is compared
  pub unlike_goes_on : (at : ℕ) (xs : List ℕ) → at < min 8 (length vs) → place + 23 ≤ length row → AreUnlike vs row place at xs
      → AreUnlike vs row place (at + 1) (zip2 bit_or xs (zip2 bit_xor (chunk (place + at) 16 row) (replicate 16 (bit_xor (slice_index vs at) 1))))
  unlike_goes_on at xs h within c =
      record {
        long = length-zip2 bit_or xs _ (c.long ∙ sym two_long) ∙ c.long;
        small = λ j l. rw (lane j l) (or_lt 8 (get_or xs j 0) (part j) (c.small j l) (part_small j));
        known = λ j l below i m. known j l (subst (λ (n : ℕ). n < 32) (lane j l) below) i m;
        alike = λ j l all. lane j l ∙ alike j l all;
      }
    where
      other : ℕ
      other = bit_xor (slice_index vs at) 1

      loaded : List ℕ
      loaded = chunk (place + at) 16 row

      cell : ℕ → ℕ
      cell j = slice_index row (place + j + at)

      part : ℕ → ℕ
      part j = bit_xor (cell j) other

      load_long : length loaded ≡ 16
      load_long = length-chunk (place + at) 16 row (omega arith)

      splat_long : length (replicate 16 other) ≡ 16
      splat_long = length-replicate 16 other

      two_long : length (zip2 bit_xor loaded (replicate 16 other)) ≡ 16
      two_long = length-zip2 bit_xor loaded (replicate 16 other) (load_long ∙ sym splat_long) ∙ load_long

      lane : (j : ℕ) → j < 16 → get_or (zip2 bit_or xs (zip2 bit_xor loaded (replicate 16 other))) j 0 ≡ bit_or (get_or xs j 0) (part j)
      lane j l =
          let there : place + at + j ≡ place + j + at = omega arith in
          get_or-zip2 bit_or xs _ j 0 0 0 (omega (arith, c.long)) (omega (arith, two_long))
          ∙ ap (bit_or (get_or xs j 0)) (get_or-zip2 bit_xor loaded _ j 0 0 0 (omega (arith, load_long)) (omega (arith, splat_long))
          ∙ (λ i. bit_xor ((get_or-chunk (place + at) 16 row j 0 l ∙ ap (slice_index row) there) i) (get_or-replicate 16 j other 0 l i)))

      other_small : other < 2 ^ 1
      other_small = xor_lt 1 (slice_index vs at) 1 (omega (arith, nops at (omega arith))) (omega arith)

      part_small : (j : ℕ) → part j < 2 ^ 8
      part_small j = xor_lt 8 (cell j) other (bytes (place + j + at)) (omega (arith, other_small))

      here_known : (j : ℕ) → part j < 32 → cell j < 32
      here_known j below =
          let back : bit_xor (bit_xor (cell j) other) other ≡ cell j =
          xor_assoc (cell j) other other ∙ ap (bit_xor (cell j)) (xor_self other) ∙ xor_zero_r (cell j) in
          subst (λ (n : ℕ). n < 32) back (xor_lt 5 (part j) other below (omega (arith, other_small)))

      known : (j : ℕ) → j < 16 → bit_or (get_or xs j 0) (part j) < 32 → (i : ℕ) → i < min (at + 1) (length vs) → slice_index row (place + j + i) < 32
      known j l below i m =
          elim (cases_lt i at) [
            | inl before ↦ c.known j l (omega (arith, le_or_l (get_or xs j 0) (part j))) i (omega arith)
            | inr last ↦
                (let same : at ≡ i = omega arith in
                subst (λ (k : ℕ). slice_index row (place + j + k) < 32) same (here_known j (omega (arith, le_or_r (get_or xs j 0) (part j)))))
          ]

      alike : (j : ℕ) → j < 16 → ((i : ℕ) → i < min (at + 1) (length vs) → get_or vs i 0 + slice_index row (place + j + i) ≡ 1)
          → bit_or (get_or xs j 0) (part j) ≡ 0
      alike j l all =
          let before = c.alike j l (λ i m. all i (omega arith)) in
          let here : part j ≡ 0 = ap (λ (n : ℕ). bit_xor n other) (other_nop (slice_index vs at) (cell j) (all at (omega arith))) ∙ xor_self other in
          (λ i. bit_or (before i) (here i))

-- a byte less 1, which goes round below 0
abbrev one_less : ℕ → ℕ
one_less x = (x + (2 ^ 8 - 1)) % 2 ^ 8

-- the test of a lane that is not ruled out
abbrev pub is_likely : ℕ → Bool
is_likely x = leb 31 (one_less x)

-- the bits of a comparison of the lanes less 1 with 31
pub likely_mask : (xs : List ℕ) → length xs ≡ 16
    → mask_l (map (top 7) (zip2 (λ a b. cond {A = ℕ} (leb a b) 255 0) (replicate 16 31)
    (zip2 (λ a b. (a + (2 ^ 8 - b)) % 2 ^ 8) xs (replicate 16 1)))) % 2 ^ 64 ≡ mask_l (map is_likely xs)
likely_mask xs long =
    let less : zip2 (λ a b. (a + (2 ^ 8 - b)) % 2 ^ 8) xs (replicate 16 1) ≡ map one_less xs = zip2_splat _ xs 16 1 long in
    let all : length (map one_less xs) ≡ 16 = length-map xs one_less ∙ long in
    let lanes : length (map is_likely xs) ≡ 16 = length-map xs is_likely ∙ long in
    ap (λ (l : List ℕ). mask_l (map (top 7) (zip2 (λ a b. cond {A = ℕ} (leb a b) 255 0) (replicate 16 31) l)) % 2 ^ 64) less
    ∙ ap (λ (l : List Bool). mask_l l % 2 ^ 64) (tops_compared w8 leb (replicate 16 31) (map one_less xs)
    ∙ zip2_splat_left leb 31 16 (map one_less xs) all ∙ map-map (leb 31) one_less xs)
    ∙ mask_l-mod (map is_likely xs) 64 (omega (arith, lanes))

module _ (vs row : List ℕ) (place : ℕ) (xs : List ℕ) (unlike : AreUnlike vs row place 8 xs) where
  abbrev pub mask : ℕ
  mask = mask_l (map is_likely xs)

  pub likely_below : mask < 2 ^ 16
  likely_below = subst (λ (k : ℕ). mask < 2 ^ k) (length-map xs is_likely ∙ unlike.long) (mask_l-lt (map is_likely xs))

  -- a lane whose bit is not set rules its candidate out
  pub likely_differs : (j : ℕ) → j < 16 → bit_at mask j ≡ 0 → Differs vs row (place + j)
  likely_differs j h none = go (is_likely (get_or xs j 0)) refl
    where
      small : get_or xs j 0 < 2 ^ 8
      small = unlike.small j h

      bit : bit_at mask j ≡ cond {A = ℕ} (is_likely (get_or xs j 0)) 1 0
      bit =
          bit_mask_l (map is_likely xs) j
          ∙ ap (λ (b : Bool). cond {A = ℕ} b 1 0)
          (get_or-map is_likely xs j 1 ∙ ap is_likely (get_or_default_zero xs j 1 (omega (arith, unlike.long))))

      go : (b : Bool) → is_likely (get_or xs j 0) ≡ b → Differs vs row (place + j)
      go true e = (let set : bit_at mask j ≡ 1 = bit ∙ ap (λ (b : Bool). cond {A = ℕ} b 1 0) e in absurd (omega (arith, set, none)))
      go false e =
          let low : (get_or xs j 0 + (2 ^ 8 - 1)) % 2 ^ 8 < 31 = leb-false 31 _ e in
          record {
            known = λ i m. unlike.known j h (omega (arith, low, small)) i m;
            other = λ all. absurd (omega (arith, low, small, unlike.alike j h all));
          }

-- where a number of sixteen bits has so many leading zeros in 64
pub leading_in_64 : (n : ℕ) → n < 2 ^ 16 → 48 ≤ leading_zeros w64 n
leading_in_64 n h = sym_le (leading_length 16 n h)
  where
    sym_le : (m : ℕ) × (count_leading_zeros 16 n + m ≡ 16) × (n < 2 ^ m) × (2 ^ m ≤ 2 * n + 1) → 48 ≤ leading_zeros w64 n
    sym_le (m, e, below, least) = omega (arith, leading_unique 64 n (48 + count_leading_zeros 16 n) m (omega (arith, e)) below least)

pub leading_bits : (n j : ℕ) → n < 2 ^ 64 → j + 48 < leading_zeros w64 n → bit_at n (15 - j) ≡ 0
leading_bits n j h few = go (leading_length 64 n h)
  where
    go : (m : ℕ) × (count_leading_zeros 64 n + m ≡ 64) × (n < 2 ^ m) × (2 ^ m ≤ 2 * n + 1) → bit_at n (15 - j) ≡ 0
    go (m, e, below, least) = bit_at_above n m (15 - j) below (omega (arith, e, few))

-- a number of sixteen bits, one of them set, has fewer trailing zeros than sixteen
pub trailing_in_16 : (n : ℕ) → 0 < n → n < 2 ^ 16 → trailing_zeros w64 n < 16
trailing_in_16 n some below =
    let lowest = bit_at-trailing_zeros w64 n some (omega (arith, below)) in
    elim (cases_lt (trailing_zeros w64 n) 16) [
      | inl few ↦ few
      | inr many ↦ (let none = bit_at_above n 16 (trailing_zeros w64 n) below many in absurd (omega (arith, none, lowest.1)))
    ]
