-- Bytes as a number, and what is seen of each under a mask.
use Rattle.std.proofs.Common.{◌≡◌, ℕ, zero, suc, ◌+◌, ◌*◌, ◌/◌, ◌%◌, ◌^◌, ◌<◌, ◌≤◌, Bool, true, false, List, refl, sym, ◌∙◌, ap, arith, length, take}
use Rattle.std.specs.Prelude.{bit_and, bit_or, bit_xor, get_or, min, nat_lt, slice_index}
use Rattle.std.proofs.lemmas.Bool.Decides.{nat_tests}
use Rattle.std.proofs.lemmas.Nat.{and_block, and_le_l, and_le_r, and_mask, xor_block, xor_lt}
use Rattle.std.specs.Int.Bits.{or_add_and}
use Rattle.std.proofs.lemmas.List.{get_or-take, length-take}
use Rattle.template_search.specs.declared.opening.Opening.{Opening}
use Rattle.template_search.specs.Openings.{Agrees, Differs, IsOpening, complement_at, mask_at, packed}

-- k bytes as a number, the first the lowest
abbrev pub number : ℕ → (ℕ → ℕ) → ℕ
number zero f = 0
number (suc k) f = number k (λ j. f (suc j)) * 2 ^ 8 + f 0

pub packed-number : (f : ℕ → ℕ) → packed f ≡ number 8 f
packed-number f = omega arith

pub number_same : (k : ℕ) (f g : ℕ → ℕ) → ((j : ℕ) → j < k → f j ≡ g j) → number k f ≡ number k g
number_same zero f g e = refl
number_same (suc k) f g e =
    let rest = number_same k (λ j. f (suc j)) (λ j. g (suc j)) (λ j h. e (suc j) (omega arith)) in
    (λ i. rest i * 2 ^ 8 + e 0 (omega arith) i)

-- what is common to two numbers is common to each of their bytes
number_and : (k : ℕ) (f g : ℕ → ℕ) → ((j : ℕ) → j < k → f j < 2 ^ 8) → ((j : ℕ) → j < k → g j < 2 ^ 8)
    → bit_and (number k f) (number k g) ≡ number k (λ j. bit_and (f j) (g j))
number_and zero f g a b = let h = and_le_l 0 0 in omega arith
number_and (suc k) f g a b =
    let rest = number_and k (λ j. f (suc j)) (λ j. g (suc j)) (λ j h. a (suc j) (omega arith)) (λ j h. b (suc j) (omega arith)) in
    and_block 8 (number k (λ j. f (suc j))) (number k (λ j. g (suc j))) (f 0) (g 0) (a 0 (omega arith)) (b 0 (omega arith))
    ∙ ap (λ (n : ℕ). n * 2 ^ 8 + bit_and (f 0) (g 0)) rest

-- a number is 0 only where each of its bytes is
number_none : (k : ℕ) (f : ℕ → ℕ) → number k f ≡ 0 → (j : ℕ) → j < k → f j ≡ 0
number_none zero f none j h = absurd (omega arith)
number_none (suc k) f none zero h = omega arith
number_none (suc k) f none (suc j) h = number_none k (λ j. f (suc j)) (omega arith) j (omega arith)

-- equal numbers have equal bytes
number_equal : (k : ℕ) (f g : ℕ → ℕ) → ((j : ℕ) → j < k → f j < 2 ^ 8) → ((j : ℕ) → j < k → g j < 2 ^ 8)
    → number k f ≡ number k g → (j : ℕ) → j < k → f j ≡ g j
number_equal zero f g a b e j h = absurd (omega arith)
number_equal (suc k) f g a b e zero h = omega (arith, a 0 (omega arith), b 0 (omega arith))
number_equal (suc k) f g a b e (suc j) h =
    number_equal k (λ j. f (suc j)) (λ j. g (suc j)) (λ j h. a (suc j) (omega arith)) (λ j h. b (suc j) (omega arith))
    (omega (arith, a 0 (omega arith), b 0 (omega arith))) j (omega arith)

-- the bits that no instruction's code has, in a byte and in eight of them
abbrev no_code : ℕ
no_code = 224

abbrev pub no_codes : ℕ
no_codes = number 8 (λ j. no_code)

is_code : (x : ℕ) → x < 2 ^ 8 → bit_and x no_code ≡ 0 → x < 32
is_code x below none =
    let parts : bit_and (x / 32 * 2 ^ 5 + x % 32) (7 * 2 ^ 5 + 0) ≡ bit_and (x / 32) 7 * 2 ^ 5 + bit_and (x % 32) 0 =
    and_block 5 (x / 32) 7 (x % 32) 0 (omega arith) (omega arith) in
    let high : bit_and (x / 32) 7 ≡ (x / 32) % 2 ^ 3 = and_mask (x / 32) 3 in
    let same : x / 32 * 2 ^ 5 + x % 32 ≡ x = omega arith in
    let is : bit_and x no_code ≡ bit_and (x / 32) 7 * 2 ^ 5 + bit_and (x % 32) 0 = ap (λ (n : ℕ). bit_and n no_code) (sym same) ∙ parts in
    omega arith

-- nothing is in two numbers where nothing is in one or the other
pub none_in_either : (a b : ℕ) → bit_or a b ≡ 0 → (a ≡ 0) × (b ≡ 0)
none_in_either a b none =
    let sum = or_add_and a b in
    let left = and_le_l a b in
    let right = and_le_r a b in
    (omega arith, omega arith)

-- what makes each nop the other one, in each of eight bytes
abbrev pub other_nops : ℕ
other_nops = number 8 (λ j. 1)

mask_below : (vs : List ℕ) (j : ℕ) → mask_at vs j < 2 ^ 8
mask_below vs j = go (nat_lt j (length vs)) refl
  where
    go : (b : Bool) → nat_lt j (length vs) ≡ b → mask_at vs j < 2 ^ 8
    go true e = rw e (omega arith)
    go false e = rw e (omega arith)

-- under the mask a byte stays as it is where the template has a cell, and is 0 elsewhere
under_mask : (vs : List ℕ) (j x : ℕ) → j < length vs → x < 2 ^ 8 → bit_and x (mask_at vs j) ≡ x
under_mask vs j x h below =
    let here : nat_lt j (length vs) ≡ true = grind (arith, nat_tests) in
    let all : bit_and x 255 ≡ x % 2 ^ 8 = and_mask x 8 in
    rw here (all ∙ omega arith)

-- exclusive bits of two numbers are those of each of their bytes
number_xor : (k : ℕ) (f g : ℕ → ℕ) → ((j : ℕ) → j < k → f j < 2 ^ 8) → ((j : ℕ) → j < k → g j < 2 ^ 8)
    → bit_xor (number k f) (number k g) ≡ number k (λ j. bit_xor (f j) (g j))
number_xor zero f g a b = refl
number_xor (suc k) f g a b =
    let rest = number_xor k (λ j. f (suc j)) (λ j. g (suc j)) (λ j h. a (suc j) (omega arith)) (λ j h. b (suc j) (omega arith)) in
    xor_block 8 (number k (λ j. f (suc j))) (number k (λ j. g (suc j))) (f 0) (g 0) (a 0 (omega arith)) (b 0 (omega arith))
    ∙ ap (λ (n : ℕ). n * 2 ^ 8 + bit_xor (f 0) (g 0)) rest

past_mask : (vs : List ℕ) (j x : ℕ) → length vs ≤ j → bit_and x (mask_at vs j) ≡ complement_at vs j
past_mask vs j x h =
    let past : nat_lt j (length vs) ≡ false = grind (arith, nat_tests) in
    let none : bit_and x 0 ≡ x % 2 ^ 0 = and_mask x 0 in
    rw past (none ∙ omega arith)

with_other_nop : (v : ℕ) → v < 2 → v + bit_xor v 1 ≡ 1
with_other_nop zero h = refl
with_other_nop (suc zero) h = refl
with_other_nop (suc (suc k)) h = absurd (omega arith)

pub other_nop : (v u : ℕ) → v + u ≡ 1 → u ≡ bit_xor v 1
other_nop zero u e = omega arith
other_nop (suc k) u e =
    let none : k ≡ 0 = omega arith in
    let last : u ≡ 0 = omega arith in
    last ∙ ap (λ (n : ℕ). bit_xor (suc n) 1) (sym none)

-- the complement of the template whose nops these are
module _ (vs cells : List ℕ) (len : ℕ) (is : vs ≡ take len cells) (enough : 8 ≤ length cells) (few : len ≤ length cells)
    (nops : (j : ℕ) → slice_index cells j < 2) where
  bytes : (j : ℕ) → slice_index cells j < 2 ^ 8
  bytes j = omega (arith, nops j)

  abbrev cell : ℕ → ℕ
  cell j = slice_index cells (0 + j)

  first : (j : ℕ) → j ≡ 0 + j
  first j = omega arith

  long : length vs ≡ len
  long = omega (arith, ap length is, length-take len cells)

  nop : (j : ℕ) → j < length vs → get_or vs j 0 < 2
  nop j h =
      let same : get_or vs j 0 ≡ slice_index cells j = ap (λ (l : List ℕ). get_or l j 0) is ∙ get_or-take len cells j 0 (omega (arith, h, long)) in
      omega (arith, same, nops j)

  complement_cell : (j : ℕ) → bit_and (bit_xor (cell j) 1) (mask_at vs j) ≡ complement_at vs j
  complement_cell j = go (nat_lt j (length vs)) refl
    where
      below : bit_xor (cell j) 1 < 2 ^ 8
      below = xor_lt 8 (cell j) 1 (bytes (0 + j)) (omega arith)

      go : (b : Bool) → nat_lt j (length vs) ≡ b → bit_and (bit_xor (cell j) 1) (mask_at vs j) ≡ complement_at vs j
      go true e =
          let here : j < length vs = grind (arith, nat_tests) in
          let same : get_or vs j 0 ≡ cell j =
          ap (λ (l : List ℕ). get_or l j 0) is ∙ get_or-take len cells j 0 (omega (arith, here, long)) ∙ ap (slice_index cells) (first j) in
          under_mask vs j (bit_xor (cell j) 1) here below ∙ rw e (ap (λ (n : ℕ). bit_xor n 1) (sym same))
      go false e = past_mask vs j (bit_xor (cell j) 1) (grind (arith, nat_tests))

  pub is_opening : (o : Opening) (word mask : ℕ) → word ≡ packed cell → mask ≡ packed (mask_at vs) → o.cells ≡ bit_and (bit_xor word other_nops) mask
      → o.mask ≡ mask
      → IsOpening vs o
  is_opening o word mask seen masks have under =
      let others : bit_xor (number 8 cell) (number 8 (λ j. 1)) ≡ number 8 (λ j. bit_xor (cell j) 1) =
      number_xor 8 cell (λ j. 1) (λ j h. bytes (0 + j)) (λ j h. omega arith) in
      let masked : bit_and (number 8 (λ j. bit_xor (cell j) 1)) (number 8 (mask_at vs)) ≡ number 8 (λ j. bit_and (bit_xor (cell j) 1) (mask_at vs j)) =
      number_and 8 (λ j. bit_xor (cell j) 1) (mask_at vs) (λ j h. xor_lt 8 (cell j) 1 (bytes (0 + j)) (omega arith)) (λ j h. mask_below vs j) in
      record {
        nops = λ j h. nop j h;
        cells =
            have
            ∙ (λ i. bit_and (bit_xor ((seen ∙ packed-number cell) i) other_nops) ((masks ∙ packed-number (mask_at vs)) i))
            ∙ ap (λ (n : ℕ). bit_and n (number 8 (mask_at vs))) others
            ∙ masked
            ∙ number_same 8 (λ j. bit_and (bit_xor (cell j) 1) (mask_at vs j)) (complement_at vs) (λ j h. complement_cell j)
            ∙ sym (packed-number (complement_at vs));
        mask = under ∙ masks;
      }

module _ (vs row : List ℕ) (place : ℕ) (o : Opening) (opening : IsOpening vs o) (bytes : (j : ℕ) → slice_index row (place + j) < 2 ^ 8) where
  abbrev byte : ℕ → ℕ
  byte j = slice_index row (place + j)

  abbrev seen : ℕ
  seen = bit_and (packed byte) o.mask

  masked : seen ≡ number 8 (λ j. bit_and (byte j) (mask_at vs j))
  masked =
      ap (λ (n : ℕ). bit_and (packed byte) n) opening.mask
      ∙ (λ i. bit_and (packed-number byte i) (packed-number (mask_at vs) i))
      ∙ number_and 8 byte (mask_at vs) (λ j h. bytes j) (λ j h. mask_below vs j)

  -- the number tells of the bytes that it was made of
  other_in_word : (seen ≡ o.cells → ⊥) → ((j : ℕ) → j < min 8 (length vs) → get_or vs j 0 + byte j ≡ 1) → ⊥
  other_in_word other all =
      other (masked ∙ number_same 8 (λ j. bit_and (byte j) (mask_at vs j)) (complement_at vs) (λ j h. same_cell j h)
      ∙ sym (packed-number (complement_at vs)) ∙ sym opening.cells)
    where
      same_cell : (j : ℕ) → j < 8 → bit_and (byte j) (mask_at vs j) ≡ complement_at vs j
      same_cell j h = go (nat_lt j (length vs)) refl
        where
          go : (b : Bool) → nat_lt j (length vs) ≡ b → bit_and (byte j) (mask_at vs j) ≡ complement_at vs j
          go true e =
              let here : j < length vs = grind (arith, nat_tests) in
              under_mask vs j (byte j) here (bytes j) ∙ rw e (other_nop (get_or vs j 0) (byte j) (all j (omega arith)))
          go false e = past_mask vs j (byte j) (grind (arith, nat_tests))

  known_in_word : bit_and seen no_codes ≡ 0 → (j : ℕ) → j < min 8 (length vs) → byte j < 32
  known_in_word none j h =
      let each : bit_and (number 8 (λ j. bit_and (byte j) (mask_at vs j)))
      (number 8 (λ j. no_code)) ≡ number 8 (λ j. bit_and (bit_and (byte j) (mask_at vs j)) no_code) =
      number_and 8 (λ j. bit_and (byte j) (mask_at vs j)) (λ j. no_code) (λ j h. omega (arith, and_le_l (byte j) (mask_at vs j), bytes j))
      (λ j h. omega arith) in
      let nothing : number 8 (λ j. bit_and (bit_and (byte j) (mask_at vs j)) no_code) ≡ 0 = sym each ∙ ap (λ (n : ℕ). bit_and n no_codes) (sym masked) ∙ none in
      is_code (byte j) (bytes j)
      (ap (λ (n : ℕ). bit_and n no_code) (sym (under_mask vs j (byte j) (omega arith) (bytes j)))
      ∙ number_none 8 (λ j. bit_and (bit_and (byte j) (mask_at vs j)) no_code) nothing j (omega arith))

  pub agrees_in_word : seen ≡ o.cells → Agrees vs row place
  agrees_in_word same j h =
      let here : nat_lt j (length vs) ≡ true = (let l : j < length vs = omega arith in grind (arith, nat_tests)) in
      let nop : get_or vs j 0 < 2 = opening.nops j (omega arith) in
      let other : complement_at vs j ≡ bit_xor (get_or vs j 0) 1 = rw here refl in
      let equal : bit_and (byte j) (mask_at vs j) ≡ complement_at vs j =
      number_equal 8 (λ j. bit_and (byte j) (mask_at vs j)) (complement_at vs)
      (λ j h. omega (arith, and_le_l (byte j) (mask_at vs j), bytes j)) (λ j h. complement_below j)
      (sym masked ∙ same ∙ opening.cells ∙ packed-number (complement_at vs)) j (omega arith) in
      let cell : byte j ≡ bit_xor (get_or vs j 0) 1 = sym (under_mask vs j (byte j) (omega arith) (bytes j)) ∙ equal ∙ other in
      ap (λ (n : ℕ). get_or vs j 0 + n) cell ∙ with_other_nop (get_or vs j 0) nop
    where
      complement_below : (j : ℕ) → complement_at vs j < 2 ^ 8
      complement_below j = go (nat_lt j (length vs)) refl
        where
          go : (b : Bool) → nat_lt j (length vs) ≡ b → complement_at vs j < 2 ^ 8
          go true e =
              let nop : get_or vs j 0 < 2 = opening.nops j (grind (arith, nat_tests)) in
              rw e (xor_lt 8 (get_or vs j 0) 1 (omega arith) (omega arith))
          go false e = rw e (omega arith)

  pub differs_in_word : (seen ≡ o.cells → ⊥) → bit_and seen no_codes ≡ 0 → Differs vs row place
  differs_in_word other none =
      record {
        known = known_in_word none;
        other = other_in_word other;
      }
