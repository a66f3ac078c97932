use Rattle.std.proofs.Common.{◌≡◌}
use Rattle.serial_slicer.specs.Onward.{after}
use Rattle.serial_slicer.proofs.run_quanta.Given as goal

abbrev pub invariant-loop-quantum : goal.invariant-loop-quantum
invariant-loop-quantum g l = l.sole.world ≡ after l._quantum l.fn.sole.world
