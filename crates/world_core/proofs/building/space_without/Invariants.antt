use Rattle.std.proofs.Common.{◌≡◌, take}
use Rattle.world_core.proofs.Built.{left_by}
use Rattle.world_core.proofs.building.space_without.Given as goal

abbrev pub invariant-loop-block : goal.invariant-loop-block
invariant-loop-block l = (l.space.size ≡ l.size) × (l.space.free ≡ left_by l.size (take l.block-index l.blocks))
