use Rattle.std.proofs.Common.{◌≡◌, map, take}
use Rattle.genotype_probe.specs.Probes.{probe}
use Rattle.genotype_probe.proofs.dealing.gathered.Given as goal

abbrev pub invariant-loop-place : goal.invariant-loop-place
invariant-loop-place l = l.all.items ≡ take l.place (map (λ s. probe s.code l.n) l.saved)
