use Rattle.tierra_model.proofs.Sound.{quantum_is_sound}
use Rattle.tierra_model.proofs.laws.quantum_is_sound.Goals as goal

pub returns : goal.returns
returns c = quantum_is_sound
