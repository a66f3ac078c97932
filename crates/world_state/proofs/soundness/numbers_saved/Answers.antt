use Rattle.tierra_model.specs.World.{Saving as ModelSaving}
use Rattle.world_state.specs.Savings.{saving_of}
use Rattle.world_state.proofs.ListsRead.{images_more}
use Rattle.world_state.proofs.soundness.numbers_saved.Goals as goal

pub loop-saving-preserved : goal.loop-saving-preserved
loop-saving-preserved c =
    images_more (λ (s : ModelSaving). s.genotype) saving_of _ _ _ _ _ c.loop-saving-test.true c.loop-saving.invariant c.in_ok-push.ensures.items
