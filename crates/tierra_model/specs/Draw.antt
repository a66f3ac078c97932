-- What the seed decides. Words 0 to 2 of a quantum's stream decide its background flip, words 3 + 4 i to 6 + 4 i its
-- instruction i.
use Rattle.rand_chacha.specs.ChaCha.{key_of, word_at}
use Rattle.std.specs.Prelude.{Bool, List, None, Option, Some, false, if◌then◌else◌, negsuc, pos, suc, true, zero, ℕ, ℤ}
use Rattle.std.specs.Prelude.{◌%◌, ◌*◌, ◌+◌, ◌==◌}

-- word k of stream q of ChaCha8 under the seed
unfoldable pub word : List ℕ → ℕ → ℕ → ℕ
word seed q k = word_at 4 (key_of seed) q k

-- A rate is due on a word that it divides, and never if the rate is 0.
abbrev pub is_due : ℕ → (ℕ → ℕ) → ℕ → Bool
is_due zero draw k = false
is_due (suc r) draw k = draw k % suc r == 0

-- the flaw of instruction i: if one is due, 1 if the next word is even and -1 if it is odd; otherwise 0
abbrev pub flaw : ℕ → (ℕ → ℕ) → ℕ → ℤ
flaw rate draw i =
    elim (is_due rate draw (3 + 4 * i)) [
      | true ↦ if draw (4 + 4 * i) % 2 == 0 then pos 1 else negsuc 0
      | false ↦ pos 0
    ]

-- the bit that a copy by instruction i flips, if any
abbrev pub copy_bit : ℕ → (ℕ → ℕ) → ℕ → Option ℕ
copy_bit rate draw i =
    elim (is_due rate draw (5 + 4 * i)) [ true ↦ Some (draw (6 + 4 * i) % 5) | false ↦ None ]

-- the cell and the bit that the background flips before the instructions, if any
abbrev pub back_flip : ℕ → (ℕ → ℕ) → ℕ → Option (ℕ × ℕ)
back_flip rate draw n =
    elim (is_due rate draw 0) [ true ↦ Some (draw 1 % n, draw 2 % 5) | false ↦ None ]
