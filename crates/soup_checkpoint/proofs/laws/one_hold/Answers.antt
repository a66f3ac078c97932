use Rattle.soup_checkpoint.specs.Hold.{owner_of}
use Rattle.soup_checkpoint.proofs.OneHold.{says_one}
use Rattle.soup_checkpoint.proofs.laws.one_hold.Goals as goal

pub returns : goal.returns
returns c = λ image setup. says_one image (owner_of setup)
