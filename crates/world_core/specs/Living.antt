-- What contracts see of the living.
use Rattle.std.specs.Prelude.{List, ℕ}
use Rattle.tierra_model.specs.declared.creatures.Creature.{Creature}

-- the creatures in the order of their birth numbers, and how many births need no memory
pub record LivingFields : Type 0 where
  pub creatures : List Creature
  pub spare : ℕ
