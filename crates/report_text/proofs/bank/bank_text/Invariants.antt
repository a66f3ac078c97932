use Rattle.std.proofs.Common.{◌≡◌, ◌++◌, drop}
use Rattle.std.specs.List.{flat_map}
use Rattle.report_text.specs.Bank.{group_text, bank_text}
use Rattle.report_text.proofs.bank.bank_text.Given as goal

abbrev pub invariant-loop-group : goal.invariant-loop-group
invariant-loop-group l = l.items.items ++ flat_map group_text (drop l.group-index l.groups) ≡ bank_text l.groups
