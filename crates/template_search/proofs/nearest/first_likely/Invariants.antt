-- The row rules out the candidates at the distances so far.
use Rattle.std.proofs.Common.{◌-◌, ◌≤◌}
use Rattle.template_search.proofs.Distances.{InVain}
use Rattle.template_search.proofs.nearest.first_likely.Given as goal

abbrev pub invariant-loop-near : goal.invariant-loop-near
invariant-loop-near g l =
    record {
      near : l.near ≤ l.straight;
      tried : InVain g.V.View.cells g.V.View.looked l.course.size l.course.ip l.course.way l.nops l.view 0 l.near;
    }

abbrev pub decreases-loop-near : goal.decreases-loop-near
decreases-loop-near g l = l.straight - l.near
