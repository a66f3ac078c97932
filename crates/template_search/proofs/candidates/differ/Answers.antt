use Rattle.template_search.proofs.Telling.{candidate_differs, candidates_differ}
use Rattle.template_search.proofs.candidates.differ.Goals as goal

pub returns-in-Outward : goal.returns-in-Outward
returns-in-Outward g c is =
    let both = c.both_differ.ensures _ c.requires.opening is in
    rw c.in-Outward.is
    (candidates_differ _ _ _ _ _ c.in-Some.ensures.held c.in-Some.ensures.traceless _ _ _ c.requires.ahead c.requires.behind both.0 both.1)

pub returns-in-Forward : goal.returns-in-Forward
returns-in-Forward g c is =
    rw c.in-Forward.is (candidate_differs _ _ _ _ _ c.in-Some.ensures.held c.in-Some.ensures.traceless _ _ c.requires.ahead
    (c.differs.ensures _ c.requires.opening is))

pub returns-in-Backward : goal.returns-in-Backward
returns-in-Backward g c is =
    rw c.in-Backward.is (candidate_differs _ _ _ _ _ c.in-Some.ensures.held c.in-Some.ensures.traceless _ _ c.requires.behind
    (c.differs-in-Backward.ensures _ c.requires.opening is))
