use Rattle.std.proofs.Common.{◌∙◌, List, ap, arith, subst, sym}
use Rattle.std.specs.Prelude.{All}
use Rattle.tierra_model.specs.Setups.{SetupFields}
use Rattle.tierra_model.specs.Sound.{IsSound}
use Rattle.tierra_model.specs.World.{World}
use Rattle.soup_isles.specs.Runs.{worlds_of}
use Rattle.soup_isles.proofs.Worlds.{settings_of_setups, settings_of_worlds, worlds-settings, worlds-sound}
use Rattle.soup_isles.proofs.epochs.run_epoch.Goals as goal

pub invariant_of-result : goal.invariant_of-result
invariant_of-result g c =
    subst (λ (l : List World). All IsSound l) (sym (c.in_ok-items.ensures ∙ ap (λ (l : List SetupFields). worlds_of l c.args.quanta) c.deref.ensures.value))
    (worlds-sound c.setups.inside.items.items c.args.quanta (omega arith) c.setups.invariant)

pub returns-clause-settings : goal.returns-clause-settings
returns-clause-settings g c =
    ap settings_of_worlds (c.in_ok-items.ensures ∙ ap (λ (l : List SetupFields). worlds_of l c.args.quanta) c.deref.ensures.value)
    ∙ worlds-settings c.setups.inside.items.items c.args.quanta (omega arith) c.setups.invariant ∙ ap settings_of_setups c.setups.view_is
