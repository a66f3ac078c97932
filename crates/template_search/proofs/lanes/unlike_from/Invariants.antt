-- The first cells of each candidate are compared.
use Rattle.template_search.specs.Openings.{AreUnlike}
use Rattle.template_search.proofs.lanes.unlike_from.Given as goal

abbrev pub invariant-loop-at : goal.invariant-loop-at
invariant-loop-at l = AreUnlike l.nops l.row l.place l.at l.unlike
