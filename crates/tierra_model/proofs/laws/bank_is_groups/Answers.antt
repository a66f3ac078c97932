use Rattle.tierra_model.proofs.BankIsGroups.{bank_is_groups}
use Rattle.tierra_model.proofs.laws.bank_is_groups.Goals as goal

pub returns : goal.returns
returns c = bank_is_groups
