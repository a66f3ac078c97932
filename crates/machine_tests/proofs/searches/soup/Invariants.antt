-- The soup keeps its size.
use Rattle.std.proofs.Common.{◌≡◌, length}
use Rattle.machine_tests.proofs.searches.soup.Given as goal

abbrev pub invariant-loop-at : goal.invariant-loop-at
invariant-loop-at l = length l.soup.0 ≡ l.size
