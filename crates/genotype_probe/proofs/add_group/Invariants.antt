use Rattle.std.proofs.Common.{◌≡◌, ◌++◌, All, drop}
use Rattle.genotype_probe.specs.Probes.{HasCode}
use Rattle.genotype_probe.proofs.add_group.Given as goal

abbrev pub invariant-loop-saved : goal.invariant-loop-saved
invariant-loop-saved l =
    (l.all.items ++ drop l.saved-index l.group.saved ≡ l.fn.all.items ++ l.group.saved) × All HasCode l.all.items
