use Rattle.std.proofs.Common.{arith}
use Rattle.reaper_queue.proofs.Once.{once_good_move}
use Rattle.reaper_queue.proofs.reaper.Reaper.good.Goals as goal

pub invariant_of-self : goal.invariant_of-self
invariant_of-self c = (
  omega (arith, c.move_down.ensures.len, c.self.invariant.0),
  rw c.move_down.ensures.items
      (once_good_move c.args.id c.self.inside.entries.items c.self.invariant.1),
)
