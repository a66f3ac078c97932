use Rattle.slicer_queue.proofs.Once.{once_turn}
use Rattle.slicer_queue.proofs.slicer.Slicer.rotate.Goals as goal

pub invariant_of-self : goal.invariant_of-self
invariant_of-self c = rw c.rotate_left.ensures.items (once_turn 1 c.self.inside.ids.items c.self.invariant)
