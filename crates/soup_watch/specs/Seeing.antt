-- What is seen of a world.
use Rattle.std.specs.List.{range_with_len}
use Rattle.std.specs.List.Sorted.{IsNonDecreasingBy}
use Rattle.std.specs.Prelude.{Bool, List, Option, filter, length, map, nat_lt, slice_get, ℕ, ◌-◌}
use Rattle.tierra_model.specs.Genebank.{name_of}
use Rattle.tierra_model.specs.World.{World, genotype_at}
use Rattle.world_core.specs.Running.{number_with}
use Rattle.soup_watch.specs.declared.sight.Count.{Count}
use Rattle.soup_watch.specs.declared.sight.Sight.{Sight}

-- how many of genotype k live, and how many ever lived
abbrev pub count_of : World → ℕ → Count
count_of w k = record {
  name = name_of w.genotypes k;
  living = number_with w.living k;
  total = (genotype_at w.genotypes k).total;
}

abbrev pub lives : Count → Bool
lives c = nat_lt 0 c.living

-- the count of each genotype that lives, in the order of first birth
abbrev pub counts_of : World → List Count
counts_of w = filter lives (map (count_of w) (range_with_len 0 (length w.genotypes)))

abbrev pub sight_of : World → Sight
sight_of w =
    record { quanta = w.quanta; births = w.births; deaths = w.deaths; living = length w.living; counts = counts_of w }

-- ---- one sight after another

-- what contracts see: the sights, and how many more can be added without memory
pub record SightsFields : Type 0 where
  pub sights : List Sight
  pub spare : ℕ

abbrev pub last_of : List Sight → Option Sight
last_of sights = slice_get sights (length sights - 1)

-- no sight is of fewer quanta than one before it
abbrev pub NeverFalls : List Sight → Type 0
NeverFalls sights = IsNonDecreasingBy (λ s. s.quanta) sights
