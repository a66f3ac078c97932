use Rattle.soup_hold.proofs.WorldsFit.{serial_fits}
use Rattle.soup_hold.proofs.laws.serial_fits.Goals as goal

pub returns : goal.returns
returns c = serial_fits
