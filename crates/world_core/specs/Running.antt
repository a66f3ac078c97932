-- A world in the middle of a turn.
use Rattle.std.specs.Prelude.{All, Bool, List, length, true, ℕ, ◌+◌, ◌<◌, ◌==◌, ◌≡◌, ◌≤◌}
use Rattle.tierra_model.specs.declared.limits.TheConstants.{COUNT_END}
use Rattle.tierra_model.specs.declared.creatures.Creature.{Creature}
use Rattle.tierra_model.specs.Counting.{one_if, sum_of, times_in}
use Rattle.tierra_model.specs.Ranges.{IsCode}
use Rattle.tierra_model.specs.Living.{ids_of}
use Rattle.tierra_model.specs.World.{World, first_of}
use Rattle.tierra_model.specs.Sound.{IsPlaced, owners}
use Rattle.soup_cells.specs.Soup.{is_ready}

-- what contracts see: the world, the soup's own pages, how many births need no memory, and how many blocks can be taken
-- or given back without memory
pub record WorldFields : Type 0 where
  pub world : World
  pub own : List Bool
  pub births : ℕ
  pub blocks : ℕ

-- the cell can be set
abbrev pub can_be_set : WorldFields → ℕ → Bool
can_be_set h p = is_ready (record { cells = h.world.soup; own = h.own }) p

-- the same cells can be set
abbrev pub KeepsReady : WorldFields → WorldFields → Type 0
KeepsReady h k = (p : ℕ) → can_be_set k p ≡ can_be_set h p

abbrev pub AllReady : WorldFields → Type 0
AllReady h = (p : ℕ) → p < h.world.settings.soup_size → can_be_set h p ≡ true

-- how many of the creatures have the genotype
abbrev pub number_with : List Creature → ℕ → ℕ
number_with living g = sum_of (λ c. one_if (c.genotype == g)) living

-- What holds of a world while one of its quanta runs. Counts are small enough that one more can be added.
pub record IsRunning (w : World) : Type 0 where
  pub cells : length w.soup ≡ w.settings.soup_size
  pub codes : All (λ v. v < 32) w.soup
  -- there is a creature whose turn it is
  pub line : 0 < length w.slicer
  pub here : 0 < times_in (ids_of w.living) (first_of w.slicer)
  -- the lists have every living creature once
  pub once : (id : ℕ) → times_in (ids_of w.living) id ≤ 1
  pub slicer : (id : ℕ) → times_in w.slicer id ≡ times_in (ids_of w.living) id
  pub reaper : (id : ℕ) → times_in w.reaper id ≡ times_in (ids_of w.living) id
  pub fresh : (id : ℕ) → w.next_birth ≤ id → times_in (ids_of w.living) id ≡ 0
  -- blocks share no cell
  pub placed : All (IsPlaced w.settings.soup_size) w.living
  pub apart : (p : ℕ) → owners w.living p ≤ 1
  pub genotype : All (λ c. c.genotype < length w.genotypes) w.living
  pub small : All (λ c. (c.errors < COUNT_END) × (c.bred < COUNT_END)) w.living
  pub written : All (λ g. IsCode g.code) w.genotypes
  pub totals : All (λ g. g.total < COUNT_END) w.genotypes
  pub births : w.births < w.next_birth
  pub living_and_dead : length w.living + w.deaths + 1 ≡ w.next_birth
  pub next_birth : w.next_birth < COUNT_END
  pub quanta : w.quanta < COUNT_END
