use Rattle.serial_slicer.proofs.Soles.{sole-put, sole-turn_end}
use Rattle.serial_slicer.proofs.sole.Sole.end_turn.Goals as goal

pub invariant_of-self : goal.invariant_of-self
invariant_of-self c =
    let placed = sole-put c.self.inside.running c.put.new.self c.args.after.now c.self.invariant c.put.ensures.ready c.put.ensures.world in
    sole-turn_end c.put.new.self c.turn_end.new.self placed c.turn_end.ensures.ready c.turn_end.ensures.world
