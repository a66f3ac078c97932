use Rattle.std.proofs.Common.{arith, rules}
use Rattle.template_search.proofs.Distances.{none_in_vain, one_more_in_vain}
use Rattle.template_search.proofs.Reaching.{reaches_straight}
use Rattle.template_search.proofs.nearest.next_likely.Goals as goal

pub loop-at-init : goal.loop-at-init
loop-at-init g c = none_in_vain _ _ _ _ _ _ _ _

pub loop-at-preserved : goal.loop-at-preserved
loop-at-preserved g c =
    let places = reaches_straight _ _ _ 1 _ _ c.loop-at.at (omega arith) (omega arith) c.requires.behind c.requires.places in
    one_more_in_vain _ _ _ _ _ _ _ c.args.near c.loop-at.at _ _ (omega arith) places (search rules) c.loop-at.invariant
