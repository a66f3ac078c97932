use Rattle.std.proofs.Common.{◌≡◌, ◌++◌, take}
use Rattle.std.specs.List.{flat_map}
use Rattle.world_state.specs.Savings.{savings_of}
use Rattle.world_state.specs.StateBytes.{saving_bytes}
use Rattle.world_state.proofs.writing.push_each_saving.Given as goal

abbrev pub invariant-loop-saving : goal.invariant-loop-saving
invariant-loop-saving l = l.out.items ≡ l.fn.out.items ++ flat_map saving_bytes (savings_of (take l.saving-index l.saved))
