use Rattle.tierra_model.proofs.FindingStands.{finding_stands}
use Rattle.tierra_model.proofs.laws.finding_stands.Goals as goal

pub returns : goal.returns
returns c = finding_stands
