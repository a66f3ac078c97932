use Rattle.std.proofs.Common.{◌+◌}
use Rattle.std.specs.Prelude.{IsTrue}
use Rattle.crew.specs.Hand.{OnGo}
use Rattle.crew.specs.Works.{HasWorked}
use Rattle.crew.proofs.worker.work_with.Given as goal

abbrev pub invariant-loop : goal.invariant-loop
invariant-loop g l = record {
  worked : HasWorked (l.counter + 1) l.fn.seat l.turned.seat;
  went : g.E.Errand.went l.turned.outcome.next l.fn.errand l.errand;
  ready : OnGo l.turned.outcome.next (g.E.Errand.is_ready l.fn.crew.lock.now.opening.setup l.errand);
  done : IsTrue l.turned.outcome.is_loaded → OnGo l.turned.outcome.next (g.E.Errand.has_done l.turned.seat.seen l.errand);
}
