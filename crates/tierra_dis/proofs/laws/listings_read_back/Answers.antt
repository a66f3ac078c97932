use Rattle.tierra_dis.proofs.ReadBack.{reads_back}
use Rattle.tierra_dis.proofs.laws.listings_read_back.Goals as goal

pub returns : goal.returns
returns c = reads_back
