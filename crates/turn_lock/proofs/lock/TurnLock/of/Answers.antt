use Rattle.std.proofs.Common.{rules, refl}
use Rattle.turn_lock.proofs.Opening.{opens}
use Rattle.turn_lock.proofs.lock.TurnLock.of.Goals as goal

pub new-requires-2 : goal.new-requires-2
new-requires-2 g c = opens _ _ c.args.value c.of-opening.result.value _ (search rules) (search rules) refl
