use Rattle.std.proofs.Common.{◌≡◌, ◌++◌, drop}
use Rattle.std.specs.List.{flat_map}
use Rattle.genotype_probe.specs.Probes.{probe}
use Rattle.genotype_probe.specs.Text.{probe_line}
use Rattle.genotype_probe.proofs.text.probe_text.Given as goal

abbrev pub invariant-loop-place : goal.invariant-loop-place
invariant-loop-place g l =
    l.items.items ++ flat_map (λ s. probe_line s.name (probe s.code l.fn.n)) (drop l.place l.genotype-items)
    ≡ flat_map (λ s. probe_line s.name (probe s.code l.fn.n)) l.genotype-items
