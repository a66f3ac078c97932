-- Soundness in parts, each tested by itself.
use Rattle.std.specs.Prelude.{All, List, length, nat_le, ℕ, ◌+◌, ◌<◌, ◌^◌, ◌≡◌, ◌≤◌}
use Rattle.tierra_model.specs.declared.limits.TheConstants.{MOST_QUANTA}
use Rattle.tierra_model.specs.declared.creatures.Creature.{Creature}
use Rattle.tierra_model.specs.Counting.{one_if, times_in}
use Rattle.tierra_model.specs.Living.{ids_of}
use Rattle.tierra_model.specs.Ranges.{AreEfforts, IsCode}
use Rattle.tierra_model.specs.Sound.{IsPlaced, Ordered, ParentsBelow, Rising, count_limit, numbers_of, owners}
use Rattle.tierra_model.specs.Sound.{saved_size, times_coded}
use Rattle.tierra_model.specs.World.{Genotype, Saving, World, genotype_at}

-- how many there are, and how far the counts go
pub record HasCounts (w : World) : Type 0 where
  pub quanta : w.quanta ≤ MOST_QUANTA
  pub next_birth : w.next_birth ≤ count_limit w.quanta
  pub some : 0 < length w.living
  pub births : w.births < w.next_birth
  pub genotype_count : length w.genotypes < w.next_birth
  pub living_and_dead : length w.living + w.deaths + 1 ≡ w.next_birth

-- the creatures, in a soup of n cells, with that number of genotypes
pub record AreLiving (n count next limit : ℕ) (living : List Creature) : Type 0 where
  pub ordered : Ordered 1 (ids_of living)
  pub numbers : All (λ c. (1 ≤ c.id) × (c.id < next)) living
  pub placed : All (IsPlaced n) living
  pub processor : All (λ c. (c.ip < n) × (c.sp < 10)) living
  pub genotype : All (λ c. c.genotype < count) living
  pub small : All (λ c. (c.errors ≤ limit) × (c.moved ≤ limit) × (c.ran ≤ limit) × (c.bred ≤ limit)) living

pub record AreGenotypes (limit : ℕ) (genotypes : List Genotype) : Type 0 where
  pub written : All (λ g. IsCode g.code) genotypes
  pub parents : ParentsBelow 0 genotypes
  pub totals : All (λ g. g.total ≤ limit) genotypes
  pub efforts : All (λ g. AreEfforts g.first_effort g.second_effort) genotypes

pub record AreSavings (quanta : ℕ) (saved : List Saving) : Type 0 where
  pub rising : Rising 0 saved
  pub past : All (λ s. s.quantum ≤ quanta) saved
  pub efforts : All (λ s. AreEfforts s.first_effort s.second_effort) saved

-- each of the lists by itself
pub record HasParts (w : World) : Type 0 where
  pub cells : length w.soup ≡ w.settings.soup_size
  pub codes : All (λ v. v < 32) w.soup
  pub living : AreLiving w.settings.soup_size (length w.genotypes) w.next_birth (count_limit w.quanta) w.living
  pub genotypes : AreGenotypes (count_limit w.quanta) w.genotypes
  pub saved : AreSavings w.quanta w.saved

-- the same numbers, each as often
abbrev pub AreSame : List ℕ → List ℕ → Type 0
AreSame numbers others = (n : ℕ) → times_in numbers n ≡ times_in others n

abbrev pub HasSlicer : World → Type 0
HasSlicer w = AreSame w.slicer (ids_of w.living)

abbrev pub HasReaper : World → Type 0
HasReaper w = AreSame w.reaper (ids_of w.living)

abbrev pub IsApart : World → Type 0
IsApart w = (p : ℕ) → owners w.living p ≤ 1

-- no two genotypes have the same code
abbrev pub AreCodedOnce : List Genotype → Type 0
AreCodedOnce genotypes = (code : List ℕ) → times_coded genotypes code ≤ 1

-- the genotypes that ever had save_at creatures or more are saved once each, and no others
abbrev pub AreDue : ℕ → List Genotype → List Saving → Type 0
AreDue save_at genotypes saved =
    (k : ℕ) → times_in (numbers_of saved) k ≡ one_if (nat_le save_at (genotype_at genotypes k).total)

-- the lists together
pub record IsMatched (w : World) : Type 0 where
  pub slicer : HasSlicer w
  pub reaper : HasReaper w
  pub apart : IsApart w
  pub coded_once : AreCodedOnce w.genotypes
  pub saved : AreDue w.settings.save_at w.genotypes w.saved

abbrev pub HasSizes : World → Type 0
HasSizes w = (q : ℕ) → saved_size w.genotypes w.saved q < 2 ^ 30
