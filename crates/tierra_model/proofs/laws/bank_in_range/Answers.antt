use Rattle.tierra_model.proofs.BankInRange.{bank_in_range}
use Rattle.tierra_model.proofs.laws.bank_in_range.Goals as goal

pub returns : goal.returns
returns c = bank_in_range
