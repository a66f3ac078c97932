use Rattle.tierra_model.proofs.FirstDifference.{least_place}
use Rattle.tierra_model.proofs.laws.least_place.Goals as goal

pub returns : goal.returns
returns c = least_place
