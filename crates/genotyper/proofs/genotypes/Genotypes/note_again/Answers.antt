use Rattle.std.proofs.Common.{rules, ◌<◌, sym, subst}
use Rattle.tierra_model.specs.declared.limits.TheConstants.{COUNT_END}
use Rattle.tierra_model.specs.World.{genotype_at}
use Rattle.genotyper.specs.Genotypes.{GenotypeFields}
use Rattle.genotyper.proofs.Births.{total_lt}
use Rattle.genotyper.proofs.genotypes.Genotypes.note_again.Goals as goal

pub raised-requires : goal.raised-requires
raised-requires c =
    total_lt c.self.inside.entries.entries c.args.number COUNT_END c.unwrap-details.result.now (search rules)
    (subst (λ (v : GenotypeFields). (genotype_at v.genotypes c.args.number).total < COUNT_END) (sym c.self.view_is) c.requires.count)
