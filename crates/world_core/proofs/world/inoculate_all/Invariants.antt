use Rattle.std.proofs.Common.{◌≡◌, drop}
use Rattle.tierra_model.specs.Serial.{with_inocula}
use Rattle.world_core.proofs.Starting.{Fills}
use Rattle.world_core.proofs.world.inoculate_all.Given as goal

abbrev pub invariant-loop-inoculum : goal.invariant-loop-inoculum
invariant-loop-inoculum l =
    Fills l.fn.running.world.settings (drop l.inoculum-index l.creatures) l.running.world
    × (with_inocula (drop l.inoculum-index l.creatures) l.running.world ≡ with_inocula l.creatures l.fn.running.world)
