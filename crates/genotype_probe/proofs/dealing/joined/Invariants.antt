use Rattle.std.proofs.Common.{◌≡◌, ◌++◌}
use Rattle.genotype_probe.proofs.dealing.joined.Given as goal

abbrev pub invariant-loop-part : goal.invariant-loop-part
invariant-loop-part l = l.all.items ++ l.part-iterator.rest.items ≡ l.fn.parts.items ++ l.fn.others.items
