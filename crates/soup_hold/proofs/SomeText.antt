-- There is a text of each run with checkpoints: where the file is not known, that of one from the start.
use Rattle.std.proofs.Common.{◌≡◌, refl, arith, ℕ, List, [], ◌∷◌, None}
use Rattle.soup_hold.specs.Holding.{IsHoldText}
use Rattle.soup_hold.specs.Text.{hold_text}
use Rattle.tierra_model.specs.declared.setups.Inoculum.{Inoculum}
use Rattle.tierra_model.specs.Events.{with_creature}
use Rattle.tierra_model.specs.Serial.{empty_world, overwrite, start, with_inocula}
use Rattle.tierra_model.specs.Setups.{SetupFields, block_of}
use Rattle.tierra_model.specs.World.{World}

inocula-quanta : (cs : List Inoculum) (w : World) → (with_inocula cs w).quanta ≡ w.quanta
inocula-quanta [] w = refl
inocula-quanta (c ∷ cs) w =
    inocula-quanta cs (with_creature w.genotypes (block_of c) c.code None 0 (record w { soup = overwrite w.soup c.at c.code }))

pub start-quanta : (setup : SetupFields) → (start setup).quanta ≡ 0
unfolding start
start-quanta setup = inocula-quanta setup.creatures (empty_world setup.settings)

pub some_hold_text : (setup : SetupFields) (n every : ℕ) → (text : List ℕ) × IsHoldText setup n every None text
some_hold_text setup n every = (
  hold_text (start setup) n every,
  record {
    first = start setup;
    goes_on = record { held = None; read = tt; is_first = refl };
    not_beyond = omega (arith, start-quanta setup);
    text_is = refl;
  },
)
