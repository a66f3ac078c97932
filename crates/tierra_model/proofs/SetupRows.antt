-- A worked example: two creatures are a setup, and the world of its last quantum is sound.
use Rattle.std.proofs.Common.{lit≤, refl}
use Rattle.tierra_model.specs.declared.limits.TheConstants.{MOST_QUANTA}
use Rattle.tierra_model.specs.Sound.{IsSound}
use Rattle.tierra_model.specs.Setups.{IsSetup}
use Rattle.tierra_model.specs.Serial.{serial}
use Rattle.tierra_model.proofs.StartIsSound.{serial_is_sound}
use Rattle.tierra_model.proofs.Examples.{two, is_setup}

pub two-is : IsSetup two
two-is = is_setup two (lit≤ tt) refl

pub two-sound : IsSound (serial two MOST_QUANTA)
two-sound = (serial_is_sound two MOST_QUANTA two-is (lit≤ tt)).sound
