-- A world.
use Rattle.std.specs.Prelude.{List, None, Option, [], slice_index, slice_index_or, ℕ}
use Rattle.tierra_model.specs.declared.creatures.Creature.{Creature}
use Rattle.tierra_model.specs.declared.creatures.Effort.{Effort}
use Rattle.tierra_model.specs.declared.parameters.Settings.{Settings}
use Rattle.tierra_model.specs.Living.{one_of, with_record}

-- a genotype: its code; its parent, which is the genotype of its first individual's mother, or None if that individual
-- was inoculated; the quantum of its first birth; how many ever had it; and the first and the second effort
pub record Genotype : Type 0 where
  pub code : List ℕ
  pub parent : Option ℕ
  pub first_quantum : ℕ
  pub total : ℕ
  pub first_effort : Option Effort
  pub second_effort : Option Effort

-- what a place past the end of the genotypes gives
abbrev pub no_genotype : Genotype
no_genotype = record {
  code = [];
  parent = None;
  first_quantum = 0;
  total = 0;
  first_effort = None;
  second_effort = None;
}

abbrev pub genotype_at : List Genotype → ℕ → Genotype
genotype_at genotypes k = slice_index_or genotypes k no_genotype

-- a genotype that was saved, in which quantum, and the efforts that it had then
pub record Saving : Type 0 where
  pub genotype : ℕ
  pub quantum : ℕ
  pub first_effort : Option Effort
  pub second_effort : Option Effort

pub record World : Type 0 where
  pub settings : Settings
  pub soup : List ℕ
  -- the living, in the order of their birth numbers
  pub living : List Creature
  -- birth numbers
  pub slicer : List ℕ
  pub reaper : List ℕ
  -- in the order of first birth
  pub genotypes : List Genotype
  -- in the order of saving
  pub saved : List Saving
  pub births : ℕ
  pub deaths : ℕ
  pub next_birth : ℕ
  pub quanta : ℕ

-- the birth number at the front of the slicer queue, which is not empty in a sound world, and its creature
abbrev pub first_of : List ℕ → ℕ
first_of ids = slice_index ids 0

abbrev pub front : World → Creature
front w = one_of w.living (first_of w.slicer)

abbrev pub put : Creature → World → World
put c w = record w { living = with_record c w.living }
