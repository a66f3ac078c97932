use Rattle.tierra_model.specs.declared.creatures.Creature.{Creature}
use Rattle.world_state.proofs.ListsRead.{image_more}
use Rattle.world_state.proofs.draft.numbers_of.Goals as goal

pub loop-creature-preserved : goal.loop-creature-preserved
loop-creature-preserved c =
    image_more (λ (x : Creature). x.id) _ _ _ _ _ c.loop-creature-test.true c.loop-creature.invariant c.in_ok-push.ensures.items
