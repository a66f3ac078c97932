use Rattle.std.proofs.Common.{arith}
use Rattle.tierra_model.specs.declared.events.Event.TheVariants as event
use Rattle.serial_slicer.proofs.Turns.{few, frame_after, ready_after, runs, state_after}
use Rattle.serial_slicer.proofs.turn.CreatureTurnGround.err.Goals as goal

pub err-requires : goal.err-requires
err-requires c = let t = c.args.self.now in omega (arith, (few t.creature t.sole.now 1 c.requires).0)

pub err-requires-2 : goal.err-requires-2
err-requires-2 c = let t = c.args.self.now in runs t.creature t.sole.now 1 c.requires

pub returns-clause-state : goal.returns-clause-state
returns-clause-state c =
    let t = c.args.self.now in
    state_after t.creature t.sole.now 1 c.requires (event.Err) c.err.new.self c.err-2.new.self c.err.ensures c.err-2.ensures

pub returns-clause-frame : goal.returns-clause-frame
returns-clause-frame c =
    let t = c.args.self.now in
    frame_after (event.Err) t.sole.now c.err-2.new.self t.sole.ghost_name c.err-2.ensures

pub returns-clause-ready : goal.returns-clause-ready
returns-clause-ready c =
    let t = c.args.self.now in
    λ n r. ready_after (event.Err) t.creature c.err.new.self t.sole.now c.err-2.new.self n 1 r (tt) (omega arith) (omega arith) c.err.ensures c.err-2.ensures
