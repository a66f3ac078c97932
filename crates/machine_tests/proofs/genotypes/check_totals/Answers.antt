use Rattle.std.proofs.Common.{◌<◌, ◌^◌, arith}
use Rattle.std.proofs.lemmas.List.Elements.{All-from_get_or}
use Rattle.tierra_model.specs.World.{Genotype, no_genotype}
use Rattle.machine_tests.proofs.genotypes.check_totals.Goals as goal

pub returns : goal.returns
returns g c =
    All-from_get_or (λ (x : Genotype). x.total < 2 ^ 60) c.args.genotypes.now.genotypes no_genotype
    (λ i h. c.loop-number.invariant i (omega (arith, c.loop-number-test.false)))
