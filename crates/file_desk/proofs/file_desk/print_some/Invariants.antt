-- A write that was interrupted left nothing.
use Rattle.std.proofs.Common.{◌≡◌}
use Rattle.file_desk.proofs.file_desk.print_some.Given as goal

abbrev pub invariant-loop : goal.invariant-loop
invariant-loop g l = g.W.Write.contents l.output ≡ g.W.Write.contents l.fn.output
