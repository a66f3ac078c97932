-- The ring of cells, and the numbers of the registers.
use Rattle.std.specs.Int.{int_bit_xor, int_rem_euclid, int_wrapping_add, int_wrapping_mul, int_wrapping_sub, w32}
use Rattle.std.specs.Prelude.{pos, unsigned_abs, ℕ, ℤ, ◌%◌, ◌+◌, ◌-◌}

-- The address of a register's value: it differs from v by a multiple of n, and is one of 0 to n - 1.
unfoldable pub address : ℤ → ℕ → ℕ
address v n = unsigned_abs (int_rem_euclid v (pos n))

-- the place k cells after p, and the place k cells before it
abbrev pub forward : ℕ → ℕ → ℕ → ℕ
forward n p k = (p + k) % n

abbrev pub backward : ℕ → ℕ → ℕ → ℕ
backward n p k = (p + (n - k % n)) % n

-- register arithmetic, modulo 2 ^ 32
abbrev pub plus : ℤ → ℤ → ℤ
plus x y = int_wrapping_add w32 x y

abbrev pub minus : ℤ → ℤ → ℤ
minus x y = int_wrapping_sub w32 x y

abbrev pub times : ℤ → ℤ → ℤ
times x y = int_wrapping_mul w32 x y

abbrev pub xor : ℤ → ℤ → ℤ
xor x y = int_bit_xor w32 x y
