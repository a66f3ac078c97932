use Rattle.std.proofs.Common.{get_or}
use Rattle.tierra_model.specs.Blocks.{no_block}
use Rattle.world_state.specs.Checks.{apart_step}
use Rattle.world_state.proofs.Passing.{apart-not, apart-on, passes-all, passes-not, passes-on}
use Rattle.world_state.proofs.checks.follow.Goals as goal

pub returns-then-block-end : goal.returns-then-block-end
returns-then-block-end c =
    passes-not apart_step c.loop-block.end c.args.blocks.now c.loop-block.block-index no_block _ c.loop-block-test.true
    (apart-not c.loop-block.end (get_or c.args.blocks.now c.loop-block.block-index no_block) c.if-block-end.true) c.loop-block.invariant

pub loop-block-preserved : goal.loop-block-preserved
loop-block-preserved c =
    passes-on apart_step c.loop-block.end _ c.args.blocks.now c.loop-block.block-index no_block _ c.loop-block-test.true
    (apart-on c.loop-block.end (get_or c.args.blocks.now c.loop-block.block-index no_block) c.if-block-end.false) c.loop-block.invariant

pub returns : goal.returns
returns c =
    passes-all apart_step c.loop-block.end c.args.blocks.now c.loop-block.block-index _ c.loop-block-test.false c.loop-block.invariant
