use Rattle.world_core.proofs.Within.{running-sound}
use Rattle.world_core.proofs.world.WorldNow.front.Goals as goal

pub front-requires : goal.front-requires
front-requires c = rw c.deref.ensures (running-sound c.self.inside.running.value.world c.self.invariant)
