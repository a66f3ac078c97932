-- Owned cells, and where a block finds room.
use Rattle.std.specs.List.{list_any}
use Rattle.std.specs.Prelude.{◌≡◌, ◌<◌, ◌≤◌, Bool, List, None, Option, Some, false, if◌then◌else◌, nat_le, suc, true}
use Rattle.std.specs.Prelude.{zero, ℕ, ◌*◌, ◌+◌, ◌-◌, ◌==◌, ◌||◌}
use Rattle.tierra_model.specs.declared.creatures.Creature.{Creature}
use Rattle.tierra_model.specs.declared.parameters.Settings.{Settings}
use Rattle.tierra_model.specs.Blocks.{is_in, is_in_daughter}

-- the cell is the creature's
abbrev pub holds : Creature → ℕ → Bool
holds c p = is_in c.own p || is_in_daughter c.daughter p

abbrev pub is_owned : List Creature → ℕ → Bool
is_owned living p = list_any (λ c. holds c p) living

-- how many of the k cells from p on the test picks
abbrev pub count_from : (ℕ → Bool) → ℕ → ℕ → ℕ
count_from test p zero = 0
count_from test p (suc k) = (if test p then 1 else 0) + count_from test (p + 1) k

-- none of the k cells from p on is owned
abbrev pub are_free : (ℕ → Bool) → ℕ → ℕ → Bool
are_free owned p k = count_from owned p k == 0

-- the first of the k places from p on at which a block of the size fits
abbrev pub first_fit_from : (ℕ → Bool) → ℕ → ℕ → ℕ → Option ℕ
first_fit_from owned size p zero = None
first_fit_from owned size p (suc k) =
    elim (are_free owned p size) [ true ↦ Some p | false ↦ first_fit_from owned size (p + 1) k ]

-- The least address of size free cells in a soup of n. No place is tried if the block is longer than the soup.
abbrev pub first_fit : ℕ → (ℕ → Bool) → ℕ → Option ℕ
first_fit n owned size = first_fit_from owned size 0 (n + 1 - size)

-- size cells of a soup of n stand free from a on
abbrev pub HasRoom : ℕ → (ℕ → Bool) → ℕ → ℕ → Type 0
HasRoom n owned size a = (a + size ≤ n) × ((p : ℕ) → a ≤ p → p < a + size → owned p ≡ false)

-- the least such address, or None if there is none
abbrev pub IsFit : ℕ → (ℕ → Bool) → ℕ → Option ℕ → Type 0
IsFit n owned size None = (a : ℕ) → HasRoom n owned size a → ⊥
IsFit n owned size (Some a) = HasRoom n owned size a × ((b : ℕ) → b < a → HasRoom n owned size b → ⊥)

-- The first fit is the least address with room.
abbrev pub FirstFitIsLeast : Type 0
FirstFitIsLeast = (n : ℕ) (owned : ℕ → Bool) (size : ℕ) → IsFit n owned size (first_fit n owned size)

-- the number of owned cells
abbrev pub filled : ℕ → (ℕ → Bool) → ℕ
filled n owned = count_from owned 0 n

-- where a block of the size is to go, unless the soup is too full or no run is long enough
abbrev pub room_for : Settings → (ℕ → Bool) → ℕ → Option ℕ
room_for s owned size =
    elim (nat_le ((filled s.soup_size owned + size) * 100) (s.fill_percent * s.soup_size)) [
      | true ↦ first_fit s.soup_size owned size
      | false ↦ None
    ]
