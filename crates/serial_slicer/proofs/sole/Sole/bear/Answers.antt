use Rattle.tierra_model.specs.declared.events.Event.TheVariants as event
use Rattle.serial_slicer.proofs.Soles.{sole-event, sole-same}
use Rattle.serial_slicer.proofs.sole.Sole.bear.Goals as goal

pub invariant_of-self-2 : goal.invariant_of-self-2
invariant_of-self-2 c =
    let reserved = sole-same c.self.inside.running c.reserve.new.self c.self.invariant c.reserve.ensures.ready c.reserve.ensures.world in
    sole-event (event.Divide c.args.ran c.args.moved) c.reserve.new.self c.divide.new.self reserved
    c.divide.ensures.ready c.divide.ensures.world
