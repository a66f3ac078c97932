use Rattle.std.proofs.Common.{◌≡◌, take}
use Rattle.world_core.proofs.building.slicer_from.Given as goal

abbrev pub invariant-loop-id : goal.invariant-loop-id
invariant-loop-id l = l.slicer.ids ≡ take l.id-index l.ids
