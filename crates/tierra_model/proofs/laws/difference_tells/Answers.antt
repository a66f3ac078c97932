use Rattle.tierra_model.proofs.FirstDifference.{difference_tells}
use Rattle.tierra_model.proofs.laws.difference_tells.Goals as goal

pub returns : goal.returns
returns c = difference_tells
