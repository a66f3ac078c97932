-- The row rules out the candidates at the distances so far.
use Rattle.template_search.proofs.Distances.{InVain}
use Rattle.template_search.proofs.nearest.next_likely.Given as goal

abbrev pub invariant-loop-at : goal.invariant-loop-at
invariant-loop-at g l = InVain g.V.View.cells g.V.View.looked l.course.size l.course.ip l.course.way l.nops l.view l.near l.at
