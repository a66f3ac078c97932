use Rattle.std.proofs.Common.{◌∙◌}
use Rattle.world_core.proofs.Built.{number-few, number-next}
use Rattle.world_core.proofs.building.census_from.Goals as goal

pub born-requires-clause-count : goal.born-requires-clause-count
born-requires-clause-count c =
    number-few c.args.living.now c.loop-creature.creature-index _ _ c.requires
    (c.in_ok-reserve.ensures.same _ ∙ c.loop-creature.invariant _)

pub loop-creature-preserved : goal.loop-creature-preserved
loop-creature-preserved c = λ g.
    number-next c.args.living.now c.loop-creature.creature-index g _ _ _ c.loop-creature-test.true
    (c.in_ok-reserve.ensures.same g ∙ c.loop-creature.invariant g) (c.born.ensures.living g)
