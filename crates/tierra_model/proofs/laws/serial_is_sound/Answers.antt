use Rattle.tierra_model.proofs.StartIsSound.{serial_is_sound}
use Rattle.tierra_model.proofs.laws.serial_is_sound.Goals as goal

pub returns : goal.returns
returns c = serial_is_sound
