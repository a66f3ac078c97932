use Rattle.world_state.specs.Savings.{saving_of}
use Rattle.world_state.specs.StateBytes.{saving_bytes}
use Rattle.world_state.proofs.ListsRead.{pieces_more}
use Rattle.world_state.proofs.writing.push_each_saving.Goals as goal

pub loop-saving-preserved : goal.loop-saving-preserved
loop-saving-preserved c =
    pieces_more saving_bytes saving_of _ _ _ _ _ _ c.loop-saving-test.true c.loop-saving.invariant c.in_ok-push_saving.ensures
