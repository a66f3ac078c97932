-- The laws that the numbers of worlds fit their types.
use Rattle.std.specs.Prelude.{ℕ, ◌<◌, ◌≤◌}
use Rattle.tierra_model.specs.declared.limits.TheConstants.{MOST_QUANTA}
use Rattle.tierra_model.specs.Quantum.{quantum}
use Rattle.tierra_model.specs.Serial.{serial}
use Rattle.tierra_model.specs.Setups.{IsSetup, SetupFields}
use Rattle.tierra_model.specs.Sound.{IsSound}
use Rattle.tierra_model.specs.World.{World}
use Rattle.world_state.specs.Restoring.{FitsTypes}

-- A quantum of a sound world that fits leaves a world that fits.
abbrev pub QuantumFits : Type 0
QuantumFits = (w : World) → IsSound w → w.quanta < MOST_QUANTA → FitsTypes w → FitsTypes (quantum w)

-- Every world of a serial run fits.
abbrev pub SerialFits : Type 0
SerialFits = (setup : SetupFields) (n : ℕ) → IsSetup setup → n ≤ MOST_QUANTA → FitsTypes (serial setup n)
