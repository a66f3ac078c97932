use Rattle.soup_checkpoint.specs.Hold.{owner_of}
use Rattle.soup_checkpoint.proofs.Saying.{always_says}
use Rattle.soup_checkpoint.proofs.laws.always_says.Goals as goal

pub returns : goal.returns
returns c = λ image setup. always_says image (owner_of setup)
