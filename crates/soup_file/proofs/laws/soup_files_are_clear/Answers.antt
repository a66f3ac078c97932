use Rattle.soup_file.proofs.OneSetup.{no-fault, one-fault, one-setup}
use Rattle.soup_file.proofs.laws.soup_files_are_clear.Goals as goal

pub returns : goal.returns
returns c = record { one_setup = one-setup; one_fault = one-fault; no_fault = no-fault }
