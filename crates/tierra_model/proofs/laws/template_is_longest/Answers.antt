use Rattle.tierra_model.proofs.TemplateIsLongest.{template_is_longest}
use Rattle.tierra_model.proofs.laws.template_is_longest.Goals as goal

pub returns : goal.returns
returns c = template_is_longest
