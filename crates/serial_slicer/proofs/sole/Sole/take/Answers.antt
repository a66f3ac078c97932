use Rattle.tierra_model.specs.declared.events.Event.TheVariants as event
use Rattle.serial_slicer.proofs.Soles.{sole-event, sole-same}
use Rattle.serial_slicer.proofs.sole.Sole.take.Goals as goal

pub invariant_of-self-2 : goal.invariant_of-self-2
invariant_of-self-2 c =
    let reserved = sole-same c.self.inside.running c.reserve_blocks.new.self c.self.invariant c.reserve_blocks.ensures.ready c.reserve_blocks.ensures.world in
    sole-event (event.Mal c.args.block.at c.args.block.size) c.reserve_blocks.new.self c.mal.new.self reserved c.mal.ensures.ready c.mal.ensures.world
