use Rattle.tierra_model.proofs.FirstFit.{first_fit_is_least}
use Rattle.tierra_model.proofs.laws.first_fit_is_least.Goals as goal

pub returns : goal.returns
returns c = first_fit_is_least
