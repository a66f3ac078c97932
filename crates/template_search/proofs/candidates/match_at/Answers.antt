use Rattle.template_search.proofs.Trying.{one_fails, one_matches}
use Rattle.template_search.proofs.candidates.match_at.Goals as goal

pub returns-then-is_complement-clause-passes : goal.returns-then-is_complement-clause-passes
returns-then-is_complement-clause-passes g c =
    one_matches _ _ _ _ _ _ _ c.if-is_complement.ensures.passes

pub returns-else-is_complement-clause-passes : goal.returns-else-is_complement-clause-passes
returns-else-is_complement-clause-passes g c =
    one_fails _ _ _ _ _ _ _ c.if-is_complement.ensures.passes
