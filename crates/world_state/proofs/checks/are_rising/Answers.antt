use Rattle.std.proofs.Common.{get_or}
use Rattle.world_state.specs.Checks.{no_saving, rising_step}
use Rattle.world_state.proofs.Passing.{passes-all, passes-not, passes-on, rising-not, rising-on}
use Rattle.world_state.proofs.checks.are_rising.Goals as goal

pub returns-then-saving-quantum : goal.returns-then-saving-quantum
returns-then-saving-quantum c =
    passes-not rising_step c.loop-saving.quantum c.args.saved.now c.loop-saving.saving-index no_saving _ c.loop-saving-test.true
    (rising-not c.loop-saving.quantum (get_or c.args.saved.now c.loop-saving.saving-index no_saving) c.if-saving-quantum.true) c.loop-saving.invariant

pub loop-saving-preserved : goal.loop-saving-preserved
loop-saving-preserved c =
    passes-on rising_step c.loop-saving.quantum _ c.args.saved.now c.loop-saving.saving-index no_saving _ c.loop-saving-test.true
    (rising-on c.loop-saving.quantum (get_or c.args.saved.now c.loop-saving.saving-index no_saving) c.if-saving-quantum.false) c.loop-saving.invariant

pub returns : goal.returns
returns c =
    passes-all rising_step c.loop-saving.quantum c.args.saved.now c.loop-saving.saving-index _ c.loop-saving-test.false c.loop-saving.invariant
