use Rattle.tierra_model.specs.declared.events.Event.TheVariants as event
use Rattle.serial_slicer.proofs.Soles.{sole-event}
use Rattle.serial_slicer.proofs.sole.Sole.err.Goals as goal

pub invariant_of-self : goal.invariant_of-self
invariant_of-self c = sole-event event.Err c.self.inside.running c.err.new.self c.self.invariant c.err.ensures.ready c.err.ensures.world
