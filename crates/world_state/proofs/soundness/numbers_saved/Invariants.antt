use Rattle.std.proofs.Common.{◌≡◌, take}
use Rattle.tierra_model.specs.Sound.{numbers_of}
use Rattle.world_state.specs.Savings.{savings_of}
use Rattle.world_state.proofs.soundness.numbers_saved.Given as goal

abbrev pub invariant-loop-saving : goal.invariant-loop-saving
invariant-loop-saving l = l.numbers.items ≡ numbers_of (savings_of (take l.saving-index l.saved))
