use Rattle.std.proofs.Common.{arith, ◌+◌}
use Rattle.std.proofs.lemmas.Result.{IfOk-weaker, on_ok_weaker}
use Rattle.crew.specs.Works.{IsFirst, IsOther}
use Rattle.crew.proofs.Speaking.{first_next, other_new}
use Rattle.crew.proofs.seats.seat_for.Goals as goal

pub returns : goal.returns
returns c =
    let at = c.args.lock.now in
    let caller = c.args.caller in
    let first = c.requires.first in
    record {
      other = IfOk-weaker c.split.result _ (IsOther at caller)
          (λ t is. other_new at caller c.args.first.now t (omega (arith, c.requires.callers.0)) c.requires.callers.1 first.lock is) c.split.ensures.new;
      first = on_ok_weaker {Q = IsFirst at (caller + 1) c.split.new.seat} c.split.result
          (λ is. first_next at caller c.args.first.now c.split.new.seat first is) c.split.ensures.old;
      refused = c.split.ensures.refused;
    }
