use Rattle.tierra_model.proofs.LawOfFindings.{law}
use Rattle.tierra_model.proofs.laws.law_of_findings.Goals as goal

pub returns : goal.returns
returns c = law
