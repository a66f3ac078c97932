use Rattle.std.proofs.Common.{arith, set, ◌+◌, subst, sym, ◌∙◌}
use Rattle.turn_lock.proofs.Merging.{MergedBelow, merged_none, merged_more, merged_all}
use Rattle.turn_lock.proofs.lock.merge.Goals as goal

pub loop-i-init : goal.loop-i-init
loop-i-init c = merged_none _ _

pub loop-i-preserved : goal.loop-i-preserved
loop-i-preserved c =
    let places = c.loop-i.invariant.places in
    let all = c.told-own in
    subst (λ x. MergedBelow c.args.own.now c.args.other.now (set c.loop-i.own c.loop-i.i x) (c.loop-i.i + 1)) (sym c.or.ensures)
    (merged_more _ _ _ _ (omega arith) c.loop-i.invariant)

pub returns : goal.returns
returns c = merged_all _ _ _ _ (c.told-own ∙ sym c.told-other) (let a = c.told-own in omega arith) c.loop-i.invariant
