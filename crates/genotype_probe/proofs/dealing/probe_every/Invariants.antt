use Rattle.std.proofs.Common.{length, ◌-◌}
use Rattle.genotype_probe.proofs.Parts.{IsPartSoFar}
use Rattle.genotype_probe.proofs.dealing.probe_every.Given as goal

abbrev pub invariant-loop-place : goal.invariant-loop-place
invariant-loop-place l = IsPartSoFar l.saved l.n l.first l.step l.place l.part.items

abbrev pub decreases-loop-place : goal.decreases-loop-place
decreases-loop-place l = length l.saved - l.place
