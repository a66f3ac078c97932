use Rattle.std.proofs.Common.{[]}
use Rattle.world_state.specs.Checks.{blocks_of}
use Rattle.world_state.proofs.ListsRead.{piece_more}
use Rattle.world_state.proofs.checks.blocks_in.Goals as goal

pub loop-creature-preserved : goal.loop-creature-preserved
loop-creature-preserved c =
    piece_more blocks_of _ _ _ [] _ _ c.loop-creature-test.true c.loop-creature.invariant c.in_ok-push_blocks.ensures
