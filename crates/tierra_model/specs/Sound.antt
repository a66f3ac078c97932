-- When a world is sound.
use Rattle.std.specs.Prelude.{All, IfSome, List, [], if◌then◌else◌, length, map, nat_le, ℕ, ◌*◌, ◌+◌, ◌<◌, ◌==◌, ◌^◌}
use Rattle.std.specs.Prelude.{◌∷◌, ◌≡◌, ◌≤◌}
use Rattle.std.specs.Str.{bytes_eq}
use Rattle.tierra_model.specs.declared.limits.TheConstants.{MOST_QUANTA, MOST_SLICE}
use Rattle.tierra_model.specs.declared.creatures.Creature.{Creature}
use Rattle.tierra_model.specs.Counting.{one_if, sum_of, times_in}
use Rattle.tierra_model.specs.Ranges.{AreEfforts, IsBlock, IsCode}
use Rattle.tierra_model.specs.Blocks.{is_in, is_in_daughter}
use Rattle.tierra_model.specs.Living.{ids_of}
use Rattle.tierra_model.specs.World.{Genotype, Saving, World, genotype_at}

-- how many blocks and daughter blocks have the cell
abbrev pub owners_of : Creature → ℕ → ℕ
owners_of c p = one_if (is_in c.own p) + one_if (is_in_daughter c.daughter p)

-- how many blocks have the cell in all
abbrev pub owners : List Creature → ℕ → ℕ
owners living p = sum_of (λ c. owners_of c p) living

-- the blocks of a creature lie in the soup
pub record IsPlaced (n : ℕ) (c : Creature) : Type 0 where
  pub own : IsBlock n c.own
  pub daughter : IfSome c.daughter (IsBlock n)

-- how many genotypes have the code
abbrev pub times_coded : List Genotype → List ℕ → ℕ
times_coded genotypes code = sum_of (λ g. one_if (bytes_eq g.code code)) genotypes

-- Each parent's number is below that of its genotype. The genotypes are numbered from k on.
abbrev pub ParentsBelow : ℕ → List Genotype → Type 0
ParentsBelow k [] = Unit {0}
ParentsBelow k (g ∷ gs) = IfSome g.parent (λ p. p < k) × ParentsBelow (k + 1) gs

-- the numbers of the saved genotypes
abbrev pub numbers_of : List Saving → List ℕ
numbers_of saved = map (λ s. s.genotype) saved

-- the quanta of the savings never fall, and the first is not below q
abbrev pub Rising : ℕ → List Saving → Type 0
Rising q [] = Unit {0}
Rising q (s ∷ rest) = (q ≤ s.quantum) × Rising s.quantum rest

-- the size of what quantum q saved: for each genotype, the length of its code plus 100
abbrev pub saved_size : List Genotype → List Saving → ℕ → ℕ
saved_size genotypes saved q =
    sum_of (λ s. if s.quantum == q then length (genotype_at genotypes s.genotype).code + 100 else 0) saved

-- the most that a count of a world may reach
abbrev pub count_limit : ℕ → ℕ
count_limit quanta = 2 ^ 40 + MOST_SLICE * quanta

-- each number is above the one before it, and the first is not below k
abbrev pub Ordered : ℕ → List ℕ → Type 0
Ordered k [] = Unit {0}
Ordered k (x ∷ xs) = (k ≤ x) × Ordered (x + 1) xs

-- (Rust's types give the ranges of the registers and the flag, and the length of the stack.)
pub record IsSound (w : World) : Type 0 where
  -- the soup
  pub cells : length w.soup ≡ w.settings.soup_size
  pub codes : All (λ v. v < 32) w.soup
  -- the lists: there is a living creature, and each list has every living creature once
  pub some : 0 < length w.living
  pub ordered : Ordered 1 (ids_of w.living)
  pub once : (id : ℕ) → times_in (ids_of w.living) id ≤ 1
  pub slicer : (id : ℕ) → times_in w.slicer id ≡ times_in (ids_of w.living) id
  pub reaper : (id : ℕ) → times_in w.reaper id ≡ times_in (ids_of w.living) id
  -- the blocks: no two share a cell
  pub placed : All (IsPlaced w.settings.soup_size) w.living
  pub apart : (p : ℕ) → owners w.living p ≤ 1
  -- the processors
  pub processor : All (λ c. (c.ip < w.settings.soup_size) × (c.sp < 10)) w.living
  -- birth numbers and counts
  pub genotype : All (λ c. c.genotype < length w.genotypes) w.living
  pub numbers : All (λ c. (1 ≤ c.id) × (c.id < w.next_birth)) w.living
  pub births : w.births < w.next_birth
  pub genotype_count : length w.genotypes < w.next_birth
  pub living_and_dead : length w.living + w.deaths + 1 ≡ w.next_birth
  pub quanta : w.quanta ≤ MOST_QUANTA
  pub next_birth : w.next_birth ≤ count_limit w.quanta
  pub small : All (λ c. (c.errors ≤ count_limit w.quanta) × (c.moved ≤ count_limit w.quanta)
      × (c.ran ≤ count_limit w.quanta) × (c.bred ≤ count_limit w.quanta)) w.living
  -- the genotypes: no two have the same code
  pub coded_once : (code : List ℕ) → times_coded w.genotypes code ≤ 1
  pub written : All (λ g. IsCode g.code) w.genotypes
  pub parents : ParentsBelow 0 w.genotypes
  pub totals : All (λ g. g.total ≤ count_limit w.quanta) w.genotypes
  pub efforts : All (λ g. AreEfforts g.first_effort g.second_effort) w.genotypes
  -- the saved genotypes: exactly those whose total is at least save_at, each once (past the end of the genotypes the
  -- total is 0, and save_at is at least 1)
  pub saved : (k : ℕ) → times_in (numbers_of w.saved) k
      ≡ one_if (nat_le w.settings.save_at (genotype_at w.genotypes k).total)
  pub rising : Rising 0 w.saved
  pub past : All (λ s. s.quantum ≤ w.quanta) w.saved
  pub saved_efforts : All (λ s. AreEfforts s.first_effort s.second_effort) w.saved
  pub sizes : (q : ℕ) → saved_size w.genotypes w.saved q < 2 ^ 30
