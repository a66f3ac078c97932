use Rattle.std.proofs.Common.{◌≡◌, ◌++◌, All, drop}
use Rattle.std.specs.List.{flat_map}
use Rattle.genotype_probe.specs.Probes.{HasCode, saved_of}
use Rattle.genotype_probe.proofs.saved_of.Given as goal

abbrev pub invariant-loop-group : goal.invariant-loop-group
invariant-loop-group l =
    (l.all.items ++ flat_map (λ g. g.saved) (drop l.group-index l.groups) ≡ saved_of l.groups) × All HasCode l.all.items
