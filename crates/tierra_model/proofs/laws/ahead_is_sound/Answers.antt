use Rattle.tierra_model.proofs.AheadIsSound.{ahead_is_sound}
use Rattle.tierra_model.proofs.laws.ahead_is_sound.Goals as goal

pub returns : goal.returns
returns c = ahead_is_sound
