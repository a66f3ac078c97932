use Rattle.std.proofs.Common.{◌≡◌, take}
use Rattle.tierra_model.specs.Serial.{overwrite}
use Rattle.world_core.proofs.running.births.write_code.Given as goal

abbrev pub invariant-loop-i : goal.invariant-loop-i
invariant-loop-i l = l.soup.cells ≡ overwrite l.fn.soup.cells l.at (take l.i l.code)
