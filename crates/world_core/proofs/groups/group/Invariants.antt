use Rattle.std.proofs.Common.{◌≡◌, map, take}
use Rattle.tierra_model.specs.Genebank.{saved_of}
use Rattle.world_state.specs.Savings.{savings_of}
use Rattle.world_core.proofs.groups.group.Given as goal

abbrev pub invariant-loop-saving : goal.invariant-loop-saving
invariant-loop-saving l = l.items.items ≡ map (saved_of l.genotypes.genotypes) (savings_of (take l.saving-index l.savings))
