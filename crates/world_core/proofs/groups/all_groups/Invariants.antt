use Rattle.std.proofs.Common.{◌≡◌, ◌++◌, ◌-◌, ◌≤◌, drop, length}
use Rattle.std.specs.Prelude.{All}
use Rattle.tierra_model.specs.Groups.{IsGroup}
use Rattle.world_core.specs.Groups.{grouped}
use Rattle.world_state.specs.Savings.{savings_of}
use Rattle.world_core.proofs.groups.all_groups.Given as goal

abbrev pub invariant-loop-at : goal.invariant-loop-at
invariant-loop-at l =
    (l.at ≤ length l.saved) × All IsGroup (grouped l.genotypes.genotypes (savings_of (drop l.at l.saved)))
    × (l.items.items ++ drop l.skip (grouped l.genotypes.genotypes (savings_of (drop l.at l.saved)))
    ≡ drop l.fn.k (grouped l.genotypes.genotypes (savings_of l.saved)))

abbrev pub decreases-loop-at : goal.decreases-loop-at
decreases-loop-at l = length l.saved - l.at
