use Rattle.soup_hold.proofs.WorldsFit.{quantum_fits}
use Rattle.soup_hold.proofs.laws.quantum_fits.Goals as goal

pub returns : goal.returns
returns c = quantum_fits
