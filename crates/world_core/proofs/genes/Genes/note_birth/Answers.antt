use Rattle.std.proofs.Common.{◌<◌, ◌^◌, ℕ, List, length, subst, sym}
use Rattle.std.specs.Prelude.{All}
use Rattle.genotyper.proofs.Births.{total_of_code}
use Rattle.world_core.specs.Savings.{GenesFields}
use Rattle.tierra_model.specs.World.{Genotype}
use Rattle.tierra_model.specs.Individuals.{with_individual}
use Rattle.world_core.proofs.Numbered.{number_among}
use Rattle.world_core.proofs.genes.Genes.note_birth.Goals as goal
use Rattle.world_core.proofs.genes.Genes.note_birth.Goals.{After-note_birth-genotype}

among : (c : After-note_birth-genotype) → c.note_birth-genotype.result < length c.note_birth-genotype.new.self.genotypes
among c =
    let r = with_individual c.self.inside.genotypes.genotypes c.args.code c.args.parent c.args.q in
    subst (λ (k : ℕ). k < length c.note_birth-genotype.new.self.genotypes) (sym c.note_birth-genotype.ensures.number)
    (subst (λ (gs : List Genotype). r.1 < length gs) (sym c.note_birth-genotype.ensures.genotypes)
    (number_among c.self.inside.genotypes.genotypes c.args.code c.args.parent c.args.q))

pub total-requires : goal.total-requires
total-requires c = among ((goal.at.total-requires c).After-note_birth-genotype)

pub first_effort-requires : goal.first_effort-requires
first_effort-requires c = among ((goal.at.first_effort-requires c).After-note_birth-genotype)

pub second_effort-requires : goal.second_effort-requires
second_effort-requires c = among ((goal.at.second_effort-requires c).After-note_birth-genotype)

pub note_birth-genotype-requires-clause-count : goal.note_birth-genotype-requires-clause-count
note_birth-genotype-requires-clause-count c =
    total_of_code c.args.code c.self.inside.genotypes.genotypes (2 ^ 60)
    (subst (λ (v : GenesFields). All (λ g. g.total < 2 ^ 60) v.genotypes) (sym c.self.view_is) c.requires.counts)
