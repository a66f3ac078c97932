use Rattle.std.proofs.Common.{get_or}
use Rattle.world_state.specs.Checks.{no_saving, size_step}
use Rattle.world_state.proofs.Passing.{passes-all, passes-not, passes-on, size-not, size-on}
use Rattle.world_state.proofs.checks.have_sizes.Goals as goal

pub returns-then-sum-ge-MOST : goal.returns-then-sum-ge-MOST
returns-then-sum-ge-MOST c =
    passes-not (size_step c.args.stored.now) (c.loop-saving.quantum, c.loop-saving.sum) c.args.saved.now c.loop-saving.saving-index no_saving _
    c.loop-saving-test.true
    (size-not c.args.stored.now (c.loop-saving.quantum, c.loop-saving.sum) (get_or c.args.saved.now c.loop-saving.saving-index no_saving) _
    c.counted-sum.ensures c.if-sum-ge-MOST.true)
    c.loop-saving.invariant.1

pub loop-saving-preserved : goal.loop-saving-preserved
loop-saving-preserved c = (
  c.if-sum-ge-MOST.false,
  passes-on (size_step c.args.stored.now) (c.loop-saving.quantum, c.loop-saving.sum) _ c.args.saved.now c.loop-saving.saving-index no_saving _
      c.loop-saving-test.true
      (size-on c.args.stored.now (c.loop-saving.quantum, c.loop-saving.sum) (get_or c.args.saved.now c.loop-saving.saving-index no_saving) _
      c.counted-sum.ensures c.if-sum-ge-MOST.false)
      c.loop-saving.invariant.1,
)

pub returns : goal.returns
returns c =
    passes-all (size_step c.args.stored.now) (c.loop-saving.quantum, c.loop-saving.sum) c.args.saved.now c.loop-saving.saving-index _
    c.loop-saving-test.false c.loop-saving.invariant.1
