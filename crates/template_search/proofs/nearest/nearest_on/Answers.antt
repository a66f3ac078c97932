use Rattle.std.proofs.Common.{arith}
use Rattle.template_search.proofs.Distances.{found_far, found_near}
use Rattle.template_search.proofs.Reaching.{reaches_straight}
use Rattle.template_search.proofs.nearest.nearest_on.Goals as goal

pub returns-in-Some-clause-passes : goal.returns-in-Some-clause-passes
returns-in-Some-clause-passes g c = found_near _ _ _ _ _ _ _ _ c.straight_distances-straight.ensures.limit _ _ _ c.in-Some.ensures.passes

pub nearest_round-requires-clause-places : goal.nearest_round-requires-clause-places
nearest_round-requires-clause-places g c =
    reaches_straight _ _ _ 1 _ _ c.straight_distances-straight.result (omega arith) (omega arith) (omega arith) c.first_pair-first.ensures.places

pub returns-clause-passes : goal.returns-clause-passes
returns-clause-passes g c =
    found_far _ _ _ _ _ _ _ _ c.straight_distances-straight.ensures.limit _ _ _ _ c.in_default.ensures.passes c.nearest_round.ensures.passes
