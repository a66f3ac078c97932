-- The first cells of a template's complement, compared with a row of cells.
use Rattle.std.specs.Prelude.{List, [], bit_xor, get_or, if◌then◌else◌, length, min, nat_lt, slice_index, ℕ, ◌+◌, ◌<◌}
use Rattle.std.specs.Prelude.{◌≡◌, ◌∷◌, ◌^◌}
use Rattle.std.specs.Int.{from_le_bytes, w64}
use Rattle.template_search.specs.declared.opening.Opening.{Opening}

-- eight bytes as a number, the first the lowest
abbrev pub packed : (ℕ → ℕ) → ℕ
packed f = from_le_bytes w64 (f 0 ∷ f 1 ∷ f 2 ∷ f 3 ∷ f 4 ∷ f 5 ∷ f 6 ∷ f 7 ∷ [])

-- cell j of a template's complement, which is the other nop, or 0 if the template has no cell j
abbrev pub complement_at : List ℕ → ℕ → ℕ
complement_at vs j = if nat_lt j (length vs) then bit_xor (get_or vs j 0) 1 else 0

-- 255 if the template has a cell j, and otherwise 0
abbrev pub mask_at : List ℕ → ℕ → ℕ
mask_at vs j = if nat_lt j (length vs) then 255 else 0

-- The opening of the complement of a template, which holds nops.
pub record IsOpening (vs : List ℕ) (o : Opening) : Type 0 where
  pub nops : (j : ℕ) → j < length vs → get_or vs j 0 < 2
  pub cells : o.cells ≡ packed (complement_at vs)
  pub mask : o.mask ≡ packed (mask_at vs)

-- The first eight cells from place on, or as many as the template has, are its complement.
abbrev pub Agrees : List ℕ → List ℕ → ℕ → Type 0
Agrees vs row place = (j : ℕ) → j < min 8 (length vs) → get_or vs j 0 + slice_index row (place + j) ≡ 1

-- The first eight cells from place on, or as many as the template has, are known, and are not its complement.
pub record Differs (vs row : List ℕ) (place : ℕ) : Type 0 where
  pub known : (j : ℕ) → j < min 8 (length vs) → slice_index row (place + j) < 32
  pub other : Agrees vs row place → ⊥

-- Lane j of xs tells of the candidate j cells after place, by the first m cells of the template or as many as it has: it
-- is below 32 only if the cells compared are all known, and 0 if they are the complement.
pub record AreUnlike (vs row : List ℕ) (place m : ℕ) (xs : List ℕ) : Type 0 where
  pub long : length xs ≡ 16
  pub small : (j : ℕ) → j < 16 → get_or xs j 0 < 2 ^ 8
  pub known : (j : ℕ) → j < 16 → get_or xs j 0 < 32 → (i : ℕ) → i < min m (length vs) → slice_index row (place + j + i) < 32
  pub alike : (j : ℕ) → j < 16 → ((i : ℕ) → i < min m (length vs) → get_or vs i 0 + slice_index row (place + j + i) ≡ 1)
      → get_or xs j 0 ≡ 0
