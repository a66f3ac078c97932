-- What the free list of a world is.
use Rattle.std.specs.Prelude.{List, not, ℕ, ◌<◌, ◌≡◌}
use Rattle.tierra_model.specs.declared.creatures.Block.{Block}
use Rattle.tierra_model.specs.FreeList.{free_list, is_in_some}
use Rattle.tierra_model.specs.Room.{is_owned}
use Rattle.tierra_model.specs.World.{World}
use Rattle.block_alloc.specs.Runs.{AreRuns}

-- The runs have the cells that nobody owns and no others. None touches the next, so each is as long as it can be.
pub record HasFreeCells (w : World) (runs : List Block) : Type 0 where
  pub apart : AreRuns 0 w.settings.soup_size runs
  pub cells : (p : ℕ) → p < w.settings.soup_size → is_in_some runs p ≡ not (is_owned w.living p)

-- The free list has them, and is the only list that does.
pub record IsOnlyFreeList (w : World) : Type 0 where
  pub has : HasFreeCells w (free_list w)
  pub only : (runs : List Block) → HasFreeCells w runs → runs ≡ free_list w

abbrev pub FreeListIsExact : Type 0
FreeListIsExact = (w : World) → IsOnlyFreeList w
