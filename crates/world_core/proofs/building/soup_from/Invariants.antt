use Rattle.std.proofs.Common.{◌≡◌, take}
use Rattle.std.specs.Prelude.{replicate}
use Rattle.tierra_model.specs.Serial.{overwrite}
use Rattle.world_core.proofs.building.soup_from.Given as goal

abbrev pub invariant-loop-at : goal.invariant-loop-at
invariant-loop-at l = l.soup.cells ≡ overwrite (replicate l.size 0) 0 (take l.at l.cells)
