use Rattle.std.proofs.Common.{rules, arith, ap}
use Rattle.turn_lock.proofs.Loading.{loads_count}
use Rattle.turn_lock.proofs.lock.TurnLock.read_counts.Goals as goal

pub load-requires : goal.load-requires
load-requires g c =
    let read = c.loop-i.invariant.2 in
    let long = read.1 in
    (search rules, search rules, loads_count _ _ _ _ _ _ _ _ (ap (λ m. m.0.stage) read.2) (omega arith) (omega arith))
