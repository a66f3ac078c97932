use Rattle.template_search.proofs.Trying.{first_of_two, second_of_two}
use Rattle.template_search.proofs.candidates.match_near.Goals as goal

pub returns-in-Some-clause-passes : goal.returns-in-Some-clause-passes
returns-in-Some-clause-passes g c = rw c.in-Outward.is (first_of_two _ _ _ _ _ _ _ _ _ c.in-Some.ensures.passes)

pub returns-in-None-clause-passes : goal.returns-in-None-clause-passes
returns-in-None-clause-passes g c =
    rw c.in-Outward.is (second_of_two _ _ _ _ _ _ _ _ _ _ c.in-None.ensures.passes c.match_at-in-None.ensures.passes)
