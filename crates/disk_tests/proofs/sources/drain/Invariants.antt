use Rattle.desk_io.specs.Source.{HasNoReadFault}
use Rattle.disk_tests.proofs.sources.drain.Given as goal

abbrev pub invariant-loop : goal.invariant-loop
invariant-loop g l = HasNoReadFault (g.S.Source.state l.source)
