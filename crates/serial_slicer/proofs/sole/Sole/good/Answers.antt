use Rattle.tierra_model.specs.declared.events.Event.TheVariants as event
use Rattle.serial_slicer.proofs.Soles.{sole-event}
use Rattle.serial_slicer.proofs.sole.Sole.good.Goals as goal

pub invariant_of-self : goal.invariant_of-self
invariant_of-self c = sole-event event.Good c.self.inside.running c.good.new.self c.self.invariant c.good.ensures.ready c.good.ensures.world
