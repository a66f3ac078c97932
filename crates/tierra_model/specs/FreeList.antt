-- The free list: the free cells as runs.
use Rattle.std.specs.List.{list_any}
use Rattle.std.specs.Prelude.{Bool, List, [], if◌then◌else◌, not, suc, zero, ℕ, ◌+◌, ◌-◌, ◌∷◌}
use Rattle.tierra_model.specs.declared.creatures.Block.{Block}
use Rattle.tierra_model.specs.Blocks.{is_in}
use Rattle.tierra_model.specs.World.{World}
use Rattle.tierra_model.specs.Room.{is_owned}

-- the list rest, after the run of the size cells before p unless size is 0
abbrev pub with_run : ℕ → ℕ → List Block → List Block
with_run p zero rest = rest
with_run p (suc size) rest = record { at = p - suc size; size = suc size } ∷ rest

-- The runs of cells that the test picks, among the k cells from p on. A run that reaches p began size cells before it.
abbrev pub runs_from : (ℕ → Bool) → ℕ → ℕ → ℕ → List Block
runs_from test size p zero = with_run p size []
runs_from test size p (suc k) =
    if test p then runs_from test (size + 1) (p + 1) k else with_run p size (runs_from test 0 (p + 1) k)

-- the runs of the cells below n that the test picks, in order, none touching the next
abbrev pub runs_of : ℕ → (ℕ → Bool) → List Block
runs_of n test = runs_from test 0 0 n

abbrev pub is_in_some : List Block → ℕ → Bool
is_in_some blocks p = list_any (λ b. is_in b p) blocks

-- the free list of a world
abbrev pub free_list : World → List Block
free_list w = runs_of w.settings.soup_size (λ p. not (is_owned w.living p))
