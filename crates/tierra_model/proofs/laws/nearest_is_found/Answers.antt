use Rattle.tierra_model.proofs.NearestFound.{nearest_is_found}
use Rattle.tierra_model.proofs.laws.nearest_is_found.Goals as goal

pub returns : goal.returns
returns c = nearest_is_found
