use Rattle.std.proofs.Common.{All, subst}
use Rattle.std.proofs.lemmas.List.{take_all}
use Rattle.std.proofs.lemmas.List.Elements.{All-map, All-more}
use Rattle.tierra_model.specs.World.{Saving as ModelSaving}
use Rattle.byte_fields.specs.Writing.{IsLongEffort}
use Rattle.world_state.specs.Savings.{saving_of}
use Rattle.world_state.specs.declared.saving.Saving.{Saving}
use Rattle.world_core.proofs.fitting.savings_fit.Goals as goal

abbrev Fits : Saving → Type 0
Fits s = IsLongEffort s.first_effort × IsLongEffort s.second_effort

abbrev ModelFits : ModelSaving → Type 0
ModelFits s = IsLongEffort s.first_effort × IsLongEffort s.second_effort

pub loop-saving-preserved : goal.loop-saving-preserved
loop-saving-preserved c =
    All-more Fits c.args.saved.now c.loop-saving.saving-index _ c.loop-saving-test.true c.loop-saving.invariant
    (c.effort_fits.ensures, c.effort_fits-in-loop-saving.ensures)

pub returns : goal.returns
returns c =
    All-map ModelFits saving_of c.args.saved.now
    (subst (All Fits) (take_all c.loop-saving.saving-index c.args.saved.now c.loop-saving-test.false) c.loop-saving.invariant)
