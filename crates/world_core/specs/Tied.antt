-- How the parts of a world fit together.
use Rattle.std.specs.Prelude.{List, not, ℕ, ◌≡◌}
use Rattle.tierra_model.specs.declared.creatures.Creature.{Creature}
use Rattle.tierra_model.specs.FreeList.{runs_of}
use Rattle.tierra_model.specs.Room.{is_owned}
use Rattle.block_alloc.specs.Blocks.{BlocksFields}
use Rattle.census.specs.declared.Census.{Census}
use Rattle.census.specs.Census.{living_of}
use Rattle.world_core.specs.Running.{number_with}

-- the free cells of a soup of n cells are those that no living creature owns, and the census counts the living
pub record AreTied (n : ℕ) (living : List Creature) (blocks : BlocksFields) (census : Census) : Type 0 where
  pub size : blocks.size ≡ n
  pub free : blocks.free ≡ runs_of n (λ p. not (is_owned living p))
  pub counts : (g : ℕ) → living_of census g ≡ number_with living g
