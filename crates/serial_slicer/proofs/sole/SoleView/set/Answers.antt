use Rattle.std.proofs.Common.{sym}
use Rattle.tierra_model.specs.declared.events.Event.TheVariants as event
use Rattle.serial_slicer.proofs.Soles.{sole-event, sole-written}
use Rattle.serial_slicer.proofs.sole.SoleView.set.Goals as goal

pub invariant_of-self : goal.invariant_of-self
invariant_of-self c =
    sole-event (event.Write c.args.at c.args.value) c.self.inside.running c.write.new.self c.self.invariant c.write.ensures.ready c.write.ensures.world

pub returns : goal.returns
returns c =
    sole-written c.self.inside.running c.write.new.self c.self.inside.own c.self.inside.daughter c.args.self.now c.args.at c.args.value (sym c.self.view_is)
    c.write.ensures.world
