-- The candidates nearer than the two places do not match, and the rest is tried from them on.
use Rattle.std.proofs.Common.{◌≡◌, ◌<◌, ◌+◌, length}
use Rattle.template_search.proofs.Distances.{SearchesOn}
use Rattle.template_search.specs.Reaching.{Reaches}
use Rattle.template_search.proofs.nearest.nearest_round.Given as goal

abbrev pub invariant-loop : goal.invariant-loop
invariant-loop g l =
    record {
      size : l.course.size ≡ g.V.View.size l.view;
      ahead : l.ahead < l.course.size;
      behind : l.behind < l.course.size;
      places : Reaches l.course.size l.course.ip (length l.nops) (l.counter + 1) l.ahead l.behind;
      tried : SearchesOn g.V.View.cells g.V.View.looked l.course.size l.course.ip l.course.way l.tried l.limit l.nops l.fn.view l.counter l.view;
    }
