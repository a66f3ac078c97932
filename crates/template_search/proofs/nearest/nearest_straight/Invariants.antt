-- The candidates nearer than these distances do not match, and the rest is tried from them on.
use Rattle.std.proofs.Common.{◌-◌, ◌≡◌, ◌≤◌}
use Rattle.template_search.specs.Openings.{IsOpening}
use Rattle.template_search.proofs.Distances.{SearchesOn}
use Rattle.template_search.proofs.nearest.nearest_straight.Given as goal

abbrev pub invariant-loop-near : goal.invariant-loop-near
invariant-loop-near g l =
    record {
      size : l.course.size ≡ g.V.View.size l.view;
      opening : IsOpening l.nops l.opening;
      near : l.near ≤ l.straight;
      tried : SearchesOn g.V.View.cells g.V.View.looked l.course.size l.course.ip l.course.way 0 l.straight l.nops l.fn.view l.near l.view;
    }

abbrev pub decreases-loop-near : goal.decreases-loop-near
decreases-loop-near g l = l.straight - l.near
