-- The living: a list of creatures, each under its birth number.
use Rattle.std.specs.Prelude.{List, None, filter, find, if◌then◌else◌, map, not, pos, replicate, unwrap_or, ℕ, ◌==◌}
use Rattle.tierra_model.specs.declared.creatures.Block.{Block}
use Rattle.tierra_model.specs.declared.creatures.Creature.{Creature}
use Rattle.tierra_model.specs.Blocks.{no_block}

-- a newborn with its birth number, its block and its genotype
abbrev pub newborn : ℕ → Block → ℕ → Creature
newborn id own genotype =
    record {
      id = id;
      own = own;
      daughter = None;
      moved = 0;
      ax = pos 0;
      bx = pos 0;
      cx = pos 0;
      dx = pos 0;
      ip = own.at;
      stack = replicate 10 (pos 0);
      sp = 0;
      flag = 0;
      errors = 0;
      genotype = genotype;
      ran = 0;
      bred = 0;
    }

-- No creature has number 0. Looking up a creature that does not live gives this one; in a sound world both queues
-- hold only the living, so that never happens.
abbrev pub nobody : Creature
nobody = newborn 0 no_block 0

-- the creature with the birth number
abbrev pub one_of : List Creature → ℕ → Creature
one_of living id = unwrap_or (find (λ c. c.id == id) living) nobody

-- the living, with c in place of the creature that has its birth number
abbrev pub with_record : Creature → List Creature → List Creature
with_record c living = map (λ x. if x.id == c.id then c else x) living

abbrev pub without : ℕ → List Creature → List Creature
without id living = filter (λ x. not (x.id == id)) living

abbrev pub ids_of : List Creature → List ℕ
ids_of living = map (λ c. c.id) living
