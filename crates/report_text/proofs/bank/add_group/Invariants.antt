use Rattle.std.proofs.Common.{◌≡◌, ◌++◌, drop}
use Rattle.std.specs.List.{flat_map}
use Rattle.report_text.specs.Bank.{genotype_text, group_text}
use Rattle.report_text.proofs.bank.add_group.Given as goal

abbrev pub invariant-loop-saved : goal.invariant-loop-saved
invariant-loop-saved l =
    l.text.items ++ flat_map (genotype_text l.group.form l.group.quantum) (drop l.saved-index l.group.saved) ≡ l.fn.text.items ++ group_text l.group
