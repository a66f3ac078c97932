-- The number that has a template's first eight cells as its bytes.
use Rattle.std.proofs.Common.{◌≡◌, ℕ, zero, suc, ◌+◌, ◌*◌, ◌^◌, ◌<◌, ◌≤◌, Bool, true, false, List, refl, sym, ◌∙◌, ap, arith, length, get_or-set_other}
use Rattle.std.proofs.Common.{get_or-set_same, pow-add, pow_pos}
use Rattle.std.specs.Prelude.{nat_eq, nat_lt, slice_index, slice_set}
use Rattle.std.proofs.Math.Nat.{mul_assoc}
use Rattle.std.proofs.lemmas.Bool.Decides.{nat_tests}
use Rattle.template_search.specs.Openings.{packed}
use Rattle.template_search.proofs.Words.{number, number_same, packed-number}

-- a byte's place is worth 256 times the one before it
next_place : (at : ℕ) → 2 ^ (8 * suc at) ≡ 2 ^ (8 * at) * 2 ^ 8
next_place at = ap (λ (n : ℕ). 2 ^ n) (let e : 8 * suc at ≡ 8 * at + 8 = omega arith in e) ∙ pow-add 2 (8 * at) 8

-- a byte more is worth its value at its place
number_put : (k at : ℕ) (f g : ℕ → ℕ) → at < k → ((j : ℕ) → (j ≡ at → ⊥) → g j ≡ f j) → f at ≡ 0
    → number k g ≡ number k f + g at * 2 ^ (8 * at)
number_put zero at f g h same none = absurd (omega arith)
number_put (suc k) zero f g h same none =
    let rest = number_same k (λ j. g (suc j)) (λ j. f (suc j)) (λ j l. same (suc j) (λ e. omega arith)) in
    omega (arith, rest, none)
number_put (suc k) (suc at) f g h same none =
    let rest = number_put k at (λ j. f (suc j)) (λ j. g (suc j)) (omega arith) (λ j other. same (suc j) (λ e. other (omega arith))) none in
    let first : g 0 ≡ f 0 = same 0 (λ e. omega arith) in
    let worth : g (suc at) * 2 ^ (8 * suc at) ≡ g (suc at) * 2 ^ (8 * at) * 2 ^ 8
    = ap (λ (n : ℕ). g (suc at) * n) (next_place at) ∙ sym (mul_assoc (g (suc at)) (2 ^ (8 * at)) (2 ^ 8)) in
    omega (arith, rest, first, worth)

-- without the bytes from a place on a number is small
number_below : (k at : ℕ) (f : ℕ → ℕ) → ((j : ℕ) → f j < 2 ^ 8) → ((j : ℕ) → at ≤ j → f j ≡ 0) → number k f < 2 ^ (8 * at)
number_below zero at f bytes none = pow_pos (8 * at)
number_below (suc k) zero f bytes none =
    let rest = number_below k 0 (λ j. f (suc j)) (λ j. bytes (suc j)) (λ j h. none (suc j) (omega arith)) in
    omega (arith, rest, none 0 (omega arith))
number_below (suc k) (suc at) f bytes none =
    let rest = number_below k at (λ j. f (suc j)) (λ j. bytes (suc j)) (λ j h. none (suc j) (omega arith)) in
    omega (arith, rest, bytes 0, next_place at)

-- The word has the first eight of the cells as its bytes. They are nops, and those from len on are 0.
pub record IsWordOf (cells : List ℕ) (len word : ℕ) : Type 0 where
  pub packed : word ≡ packed (slice_index cells)
  pub nops : (j : ℕ) → slice_index cells j < 2
  pub none : (j : ℕ) → len ≤ j → slice_index cells j ≡ 0

pub word_below : (cells : List ℕ) (len word : ℕ) → IsWordOf cells len word → word < 2 ^ (8 * len)
word_below cells len word is =
    let all = number_below 8 len (slice_index cells) (λ j. omega (arith, is.nops j)) is.none in
    omega (arith, all, is.packed, packed-number (slice_index cells))

module _ (cells : List ℕ) (len nop word next : ℕ) (ten : length cells ≡ 10) (h : len < 10) (is : IsWordOf cells len word) where
  abbrev more : List ℕ
  more = slice_set cells len nop

  here : slice_index more len ≡ nop
  here = get_or-set_same cells len nop 0 (omega arith)

  elsewhere : (j : ℕ) → (j ≡ len → ⊥) → slice_index more j ≡ slice_index cells j
  elsewhere j other = get_or-set_other cells len j nop 0 other

  pub nops_go_on : nop < 2 → (j : ℕ) → slice_index more j < 2
  nops_go_on few j = go (nat_eq j len) refl
    where
      go : (b : Bool) → nat_eq j len ≡ b → slice_index more j < 2
      go true e = (let same : j ≡ len = grind (arith, nat_tests) in omega (arith, ap (slice_index more) same, here))
      go false e = (let other : j ≡ len → ⊥ = grind (arith, nat_tests) in omega (arith, elsewhere j other, is.nops j))

  packed_goes_on : (len < 8 → next ≡ word + nop * 2 ^ (8 * len)) → (8 ≤ len → next ≡ word) → next ≡ number 8 (slice_index more)
  packed_goes_on within behind = go (nat_lt len 8) refl
    where
      was : word ≡ number 8 (slice_index cells)
      was = is.packed ∙ packed-number (slice_index cells)

      go : (b : Bool) → nat_lt len 8 ≡ b → next ≡ number 8 (slice_index more)
      go true e =
          let l : len < 8 = grind (arith, nat_tests) in
          let put = number_put 8 len (slice_index cells) (slice_index more) l elsewhere (is.none len (omega arith)) in
          within l ∙ (λ i. was i + sym here i * 2 ^ (8 * len)) ∙ sym put
      go false e =
          let l : 8 ≤ len = grind (arith, nat_tests) in
          behind l ∙ was ∙ number_same 8 (slice_index cells) (slice_index more) (λ j k. sym (elsewhere j (λ s. omega arith)))

  pub word_goes_on : nop < 2 → (len < 8 → next ≡ word + nop * 2 ^ (8 * len)) → (8 ≤ len → next ≡ word) → IsWordOf more (len + 1) next
  word_goes_on few within behind = record {
    packed = packed_goes_on within behind ∙ sym (packed-number (slice_index more));
    nops = nops_go_on few;
    none = λ j k. elsewhere j (λ e. omega arith) ∙ is.none j (omega arith);
  }
