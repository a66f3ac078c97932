use Rattle.std.proofs.Common.{arith, rules}
use Rattle.template_search.proofs.Distances.{search_finds, search_goes_on}
use Rattle.template_search.proofs.Reaching.{reaches_next}
use Rattle.template_search.proofs.nearest.nearest_round.Goals as goal

pub returns-in-Some-clause-passes : goal.returns-in-Some-clause-passes
returns-in-Some-clause-passes g c =
    search_finds _ _ _ _ _ _ _ _ _ c.loop.counter _ _ _ _ _ (omega arith) c.loop.invariant.places c.in-Some.ensures.passes c.loop.invariant.tried

pub loop-preserved : goal.loop-preserved
loop-preserved g c = record {
  size = search rules;
  ahead = omega arith;
  behind = omega arith;
  places = reaches_next _ _ _ _ _ _ _ _ (omega arith) c.previous_place-behind.ensures.below c.next_place-ahead.ensures.next
      c.previous_place-behind.ensures.previous c.loop.invariant.places;
  tried = search_goes_on _ _ _ _ _ _ _ _ _ c.loop.counter _ _ _ _ (omega arith) c.loop.invariant.places c.in_default.ensures.passes c.loop.invariant.tried;
}
