use Rattle.tierra_model.specs.declared.events.Event.TheVariants as event
use Rattle.serial_slicer.proofs.Soles.{sole-event}
use Rattle.serial_slicer.proofs.sole.Sole.flip.Goals as goal

pub invariant_of-self : goal.invariant_of-self
invariant_of-self c =
    sole-event (event.Write c.args.at c.flip_bit-value.result) c.self.inside.running c.write.new.self c.self.invariant c.write.ensures.ready
    c.write.ensures.world
