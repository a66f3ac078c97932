use Rattle.std.proofs.Common.{arith}
use Rattle.template_search.proofs.Sixteen.{unlike_goes_on}
use Rattle.template_search.proofs.lanes.unlike_from.Goals as goal

pub loop-at-preserved : goal.loop-at-preserved
loop-at-preserved c =
    unlike_goes_on c.args.nops.now c.args.row.now c.args.place c.requires.nops (λ j. (c.type_inv.row j).fits) c.loop-at.at _ (omega arith) c.requires.within
    c.loop-at.invariant
