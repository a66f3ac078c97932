-- The world that a run goes on from has the setup's settings.
use Rattle.std.proofs.Common.{◌≡◌, ◌∙◌, refl, ap, ℕ, List, [], ◌∷◌, Option, Some, None}
use Rattle.soup_hold.specs.Holding.{GoesOnFrom, IsFirst}
use Rattle.tierra_model.specs.declared.setups.Inoculum.{Inoculum}
use Rattle.tierra_model.specs.Events.{with_creature}
use Rattle.tierra_model.specs.Serial.{empty_world, overwrite, start, with_inocula}
use Rattle.tierra_model.specs.Setups.{SetupFields, block_of}
use Rattle.tierra_model.specs.World.{World}

inocula-settings : (cs : List Inoculum) (w : World) → (with_inocula cs w).settings ≡ w.settings
inocula-settings [] w = refl
inocula-settings (c ∷ cs) w =
    inocula-settings cs (with_creature w.genotypes (block_of c) c.code None 0 (record w { soup = overwrite w.soup c.at c.code }))

start-settings : (setup : SetupFields) → (start setup).settings ≡ setup.settings
unfolding start
start-settings setup = inocula-settings setup.creatures (empty_world setup.settings)

settings_of : (setup : SetupFields) (held : Option (List ℕ)) (w : World) → IsFirst setup held w → w.settings ≡ setup.settings
settings_of setup None w is = ap (λ (v : World). v.settings) is ∙ start-settings setup
settings_of setup (Some state) w is = is.settings

pub first_settings : (setup : SetupFields) (file : Option (List ℕ)) (w : World) → GoesOnFrom setup file w → w.settings ≡ setup.settings
first_settings setup file w goes = settings_of setup goes.held w goes.is_first
