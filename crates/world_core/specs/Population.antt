-- The living with their two queues.
use Rattle.std.specs.Prelude.{List, map, ℕ}
use Rattle.tierra_model.specs.declared.creatures.Creature.{Creature}
use Rattle.tierra_model.specs.Living.{one_of}

-- the living, the two queues as lists of birth numbers, and how many births need no memory
pub record PopulationFields : Type 0 where
  pub living : List Creature
  pub slicer : List ℕ
  pub reaper : List ℕ
  pub spare : ℕ

-- the entries of a reaper queue, each with the errors of its creature
abbrev pub entries_of : List Creature → List ℕ → List (ℕ × ℕ)
entries_of living ids = map (λ id. (id, (one_of living id).errors)) ids
