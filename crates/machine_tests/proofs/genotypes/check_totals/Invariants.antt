use Rattle.std.proofs.Common.{ℕ, ◌<◌, ◌^◌}
use Rattle.tierra_model.specs.World.{genotype_at}
use Rattle.machine_tests.proofs.genotypes.check_totals.Given as goal

abbrev pub invariant-loop-number : goal.invariant-loop-number
invariant-loop-number g l = (k : ℕ) → k < l.number → (genotype_at l.genotypes.genotypes k).total < 2 ^ 60
