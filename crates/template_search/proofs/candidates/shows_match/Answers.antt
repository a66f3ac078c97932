use Rattle.std.proofs.Common.{rules}
use Rattle.template_search.proofs.Telling.{candidate_agrees}
use Rattle.template_search.proofs.candidates.shows_match.Goals as goal

pub returns-then-nops-le8 : goal.returns-then-nops-le8
returns-then-nops-le8 g c is =
    candidate_agrees _ _ _ _ _ c.in-Some-row.ensures.held c.in-Some-row.ensures.traceless _ _ (search rules) c.if-nops-le8.true
    (c.agrees.ensures _ (search rules) is)
