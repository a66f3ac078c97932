use Rattle.std.proofs.Common.{arith}
use Rattle.template_search.proofs.Telling.{candidate_differs, candidates_differ}
use Rattle.template_search.proofs.candidates.ruled_out.Goals as goal

pub returns-in-Outward-clause-none : goal.returns-in-Outward-clause-none
returns-in-Outward-clause-none g c j h =
    let ahead = c.ruled_out_ahead-ahead.ensures.differ j (omega arith) in
    let behind = c.ruled_out_behind.ensures.differ j (omega arith) in
    rw c.in-Outward.is
    (candidates_differ _ _ _ _ _ c.in-Some.ensures.held c.in-Some.ensures.traceless _ _ _ (omega arith) (omega arith) ahead behind)

pub returns-in-Forward-clause-none : goal.returns-in-Forward-clause-none
returns-in-Forward-clause-none g c j h =
    rw c.in-Forward.is (candidate_differs _ _ _ _ _ c.in-Some.ensures.held c.in-Some.ensures.traceless _ _ (omega arith)
    (c.ruled_out_ahead.ensures.differ j h))

pub returns-in-Backward-clause-none : goal.returns-in-Backward-clause-none
returns-in-Backward-clause-none g c j h =
    rw c.in-Backward.is (candidate_differs _ _ _ _ _ c.in-Some.ensures.held c.in-Some.ensures.traceless _ _ (omega arith)
    (c.ruled_out_behind-in-Backward.ensures.differ j h))
