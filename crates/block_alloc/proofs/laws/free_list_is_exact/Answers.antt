use Rattle.block_alloc.proofs.FreeLists.{free_list-exact}
use Rattle.block_alloc.proofs.laws.free_list_is_exact.Goals as goal

pub returns : goal.returns
returns c = free_list-exact
