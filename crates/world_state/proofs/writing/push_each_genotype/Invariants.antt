use Rattle.std.proofs.Common.{◌≡◌, ◌++◌, take}
use Rattle.std.specs.List.{flat_map}
use Rattle.world_state.specs.StateBytes.{genotype_bytes}
use Rattle.world_state.proofs.writing.push_each_genotype.Given as goal

abbrev pub invariant-loop-number : goal.invariant-loop-number
invariant-loop-number l = l.out.items ≡ l.fn.out.items ++ flat_map genotype_bytes (take l.number l.genotypes.genotypes)
