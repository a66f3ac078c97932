use Rattle.std.proofs.Common.{◌≡◌, take}
use Rattle.world_core.specs.Population.{entries_of}
use Rattle.world_core.proofs.building.reaper_from.Given as goal

abbrev pub invariant-loop-id : goal.invariant-loop-id
invariant-loop-id l = l.reaper.entries ≡ entries_of l.living.creatures (take l.id-index l.ids)
