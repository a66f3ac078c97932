use Rattle.std.proofs.Common.{rules, sym, subst}
use Rattle.turn_lock.specs.View.{IsActive}
use Rattle.turn_lock.proofs.Loading.{loads_serving}
use Rattle.turn_lock.proofs.lock.TurnLock.served_before.Goals as goal

pub load-serving-requires : goal.load-serving-requires
load-serving-requires g c = (search rules, search rules, loads_serving _ _ _ _ _ (subst IsActive (sym c.requires.waits) tt))
