-- The parts of a world that is made again.
use Rattle.std.specs.Prelude.{not, ℕ, ◌≡◌}
use Rattle.tierra_model.specs.FreeList.{runs_of}
use Rattle.tierra_model.specs.Room.{is_owned}
use Rattle.tierra_model.specs.World.{World}
use Rattle.census.specs.Census.{living_of}
use Rattle.world_core.specs.declared.building.Parts.{Parts}
use Rattle.world_core.specs.Running.{number_with}

-- the parts are those of the world
pub record ArePartsOf (w : World) (parts : Parts) : Type 0 where
  pub counts : (g : ℕ) → living_of parts.census g ≡ number_with w.living g
  pub size : parts.blocks.size ≡ w.settings.soup_size
  pub free : parts.blocks.free ≡ runs_of w.settings.soup_size (λ p. not (is_owned w.living p))
  pub genotypes : parts.genotypes.genotypes ≡ w.genotypes
  pub soup : parts.soup.cells ≡ w.soup
  pub living : parts.population.living ≡ w.living
  pub slicer : parts.population.slicer ≡ w.slicer
  pub reaper : parts.population.reaper ≡ w.reaper
