-- The savings, as a world of the definitions has them.
use Rattle.std.specs.Prelude.{List, map}
use Rattle.tierra_model.specs.World.{Saving as ModelSaving}
use Rattle.world_state.specs.declared.saving.Saving.{Saving}

abbrev pub saving_of : Saving → ModelSaving
saving_of s = record {
  genotype = s.genotype;
  quantum = s.quantum;
  first_effort = s.first_effort;
  second_effort = s.second_effort;
}

abbrev pub savings_of : List Saving → List ModelSaving
savings_of saved = map saving_of saved
