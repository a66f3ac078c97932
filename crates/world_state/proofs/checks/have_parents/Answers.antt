use Rattle.std.proofs.Common.{◌∙◌, ap, ◌+◌, sym}
use Rattle.world_state.specs.Checks.{parent_step}
use Rattle.world_state.proofs.Passing.{parent-not, parent-on, passes-all, passes-not, passes-on}
use Rattle.world_state.proofs.checks.have_parents.Goals as goal

pub returns-then-not-is_parent : goal.returns-then-not-is_parent
returns-then-not-is_parent c =
    passes-not parent_step c.loop-found.number c.args.stored.now c.loop-found.found-index c.found-item.result _
    c.loop-found-test.true (ap (parent_step c.loop-found.number) (sym c.found-item.is)
    ∙ parent-not c.loop-found.number c.found-item.result (sym c.if-not-is_parent.ensures)) c.loop-found.invariant.1

pub loop-found-preserved : goal.loop-found-preserved
loop-found-preserved c = (
  ap (λ n. n + 1) c.loop-found.invariant.0,
  passes-on parent_step c.loop-found.number _ c.args.stored.now c.loop-found.found-index c.found-item.result _
      c.loop-found-test.true (ap (parent_step c.loop-found.number) (sym c.found-item.is)
      ∙ parent-on c.loop-found.number c.found-item.result (sym c.if-not-is_parent.ensures)) c.loop-found.invariant.1,
)

pub returns : goal.returns
returns c =
    passes-all parent_step c.loop-found.number c.args.stored.now c.loop-found.found-index _ c.loop-found-test.false c.loop-found.invariant.1
