use Rattle.std.proofs.Common.{◌∙◌, ap, sym}
use Rattle.tierra_model.specs.declared.parameters.Settings.{Settings}
use Rattle.tierra_model.specs.Setups.{SetupFields}
use Rattle.soup_isles.proofs.Worlds.{next-is_setup}
use Rattle.soup_isles.proofs.migration.next_setup.Goals as goal

pub invariant_of-result : goal.invariant_of-result
invariant_of-result c =
    next-is_setup c.args.worlds.now c.args.setups.now c.args.place c.setup.inside.settings c.with_seed-settings.result c.in_ok-items.items.items
    c.requires.settings c.requires.place
    (ap (λ (x : SetupFields). x.settings) (sym c.get-setup.ensures.setup ∙ sym c.setup.view_is))
    (ap (λ (x : Settings). x.soup_size) c.with_seed-settings.ensures) c.in_ok-items.ensures.setup

pub returns-clause-setup : goal.returns-clause-setup
returns-clause-setup c =
    next-is_setup c.args.worlds.now c.args.setups.now c.args.place c.setup.inside.settings c.with_seed-settings.result c.in_ok-items.items.items
    c.requires.settings c.requires.place
    (ap (λ (x : SetupFields). x.settings) (sym c.get-setup.ensures.setup ∙ sym c.setup.view_is))
    (ap (λ (x : Settings). x.soup_size) c.with_seed-settings.ensures) c.in_ok-items.ensures.setup
