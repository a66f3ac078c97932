use Rattle.std.proofs.Common.{◌≡◌, take}
use Rattle.tierra_model.specs.Living.{ids_of}
use Rattle.world_state.proofs.draft.numbers_of.Given as goal

abbrev pub invariant-loop-creature : goal.invariant-loop-creature
invariant-loop-creature l = l.numbers.items ≡ ids_of (take l.creature-index l.line)
