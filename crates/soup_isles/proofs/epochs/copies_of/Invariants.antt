use Rattle.std.proofs.Common.{◌≡◌, ◌++◌, drop}
use Rattle.soup_isles.proofs.epochs.copies_of.Given as goal

abbrev pub invariant-loop-creature : goal.invariant-loop-creature
invariant-loop-creature l = l.items.items ++ drop l.creature-index l.creatures ≡ l.creatures
