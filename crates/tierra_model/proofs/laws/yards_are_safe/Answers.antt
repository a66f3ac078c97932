use Rattle.tierra_model.proofs.YardsAreSafe.{yards_are_safe}
use Rattle.tierra_model.proofs.laws.yards_are_safe.Goals as goal

pub returns : goal.returns
returns c = yards_are_safe
