use Rattle.std.proofs.Common.{All, take}
use Rattle.byte_fields.specs.Writing.{IsLongEffort}
use Rattle.world_state.specs.declared.saving.Saving.{Saving}
use Rattle.world_core.proofs.fitting.savings_fit.Given as goal

abbrev pub invariant-loop-saving : goal.invariant-loop-saving
invariant-loop-saving l =
    All (λ (s : Saving). IsLongEffort s.first_effort × IsLongEffort s.second_effort) (take l.saving-index l.saved)
