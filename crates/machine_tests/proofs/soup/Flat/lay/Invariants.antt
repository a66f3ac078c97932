-- The blocks stay.
use Rattle.std.proofs.Common.{◌≡◌}
use Rattle.machine_tests.proofs.soup.Flat.lay.Given as goal

abbrev pub invariant-loop-code : goal.invariant-loop-code
invariant-loop-code l = record { own : l.self.1 ≡ l.fn.self.1; daughter : l.self.2 ≡ l.fn.self.2 }
