use Rattle.std.proofs.Common.{◌≡◌, ◌++◌, drop}
use Rattle.tierra_model.proofs.setups.Setup.copy.Given as goal

abbrev pub invariant-loop-creature : goal.invariant-loop-creature
invariant-loop-creature l = l.items.items ++ drop l.creature-index l.self.creatures ≡ l.self.creatures
