-- A step can be executed, and each adds at most one to a count.
use Rattle.std.proofs.Common.{◌+◌, ◌<◌}
use Rattle.cpu_core.specs.Executing.{CanExecute}
use Rattle.machine_tests.proofs.running.run_over.Given as goal

abbrev pub invariant-loop-i : goal.invariant-loop-i
invariant-loop-i g l =
    record {
      ready : CanExecute g.V.View.size g.V.View.cells g.V.View.writable l.settings l.creature l.soup;
      moved : l.creature.moved < 1000 + l.i;
      errors : l.creature.errors < 1000 + l.i;
      ran : l.creature.ran < 1000 + l.i;
    }
