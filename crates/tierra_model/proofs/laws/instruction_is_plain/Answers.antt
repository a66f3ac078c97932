use Rattle.tierra_model.proofs.PlainInstruction.{instruction_is_plain}
use Rattle.tierra_model.proofs.laws.instruction_is_plain.Goals as goal

pub returns : goal.returns
returns c = instruction_is_plain
