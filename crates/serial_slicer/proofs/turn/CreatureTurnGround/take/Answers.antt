use Rattle.std.proofs.Common.{arith}
use Rattle.std.proofs.lemmas.Result.{on_ok_weaker}
use Rattle.tierra_model.specs.declared.events.Event.TheVariants as event
use Rattle.serial_slicer.proofs.Turns.{can_take, frame_after, ready_after, runs, state_after}
use Rattle.serial_slicer.proofs.turn.CreatureTurnGround.take.Goals as goal

pub take-requires : goal.take-requires
take-requires c =
    let t = c.args.self.now in
    omega (
      arith,
      (can_take t.creature t.sole.now 1 c.requires.ready c.args.block.size c.args.block.at c.requires.none c.requires.one c.requires.few
          c.requires.room).1.2,
      t.sole.now.world.settings.soup,
    )

pub take-requires-2-clause-within : goal.take-requires-2-clause-within
take-requires-2-clause-within c = let t = c.args.self.now in runs t.creature t.sole.now 1 c.requires.ready

pub take-requires-2-clause-can : goal.take-requires-2-clause-can
take-requires-2-clause-can c = let t = c.args.self.now in
    can_take t.creature t.sole.now 1 c.requires.ready c.args.block.size c.args.block.at c.requires.none c.requires.one c.requires.few c.requires.room

pub returns-clause-state : goal.returns-clause-state
returns-clause-state c =
    let t = c.args.self.now in
    on_ok_weaker c.take-2.result (λ done. state_after t.creature t.sole.now 1 c.requires.ready (event.Mal c.args.block.at c.args.block.size) c.take.new.self
    c.take-2.new.self c.take.ensures done) c.take-2.ensures

pub returns-clause-frame : goal.returns-clause-frame
returns-clause-frame c =
    let t = c.args.self.now in
    on_ok_weaker c.take-2.result (λ done. frame_after (event.Mal c.args.block.at c.args.block.size) t.sole.now c.take-2.new.self t.sole.ghost_name done)
    c.take-2.ensures

pub returns-clause-ready : goal.returns-clause-ready
returns-clause-ready c =
    let t = c.args.self.now in
    on_ok_weaker c.take-2.result (λ done. λ n r. ready_after (event.Mal c.args.block.at c.args.block.size) t.creature c.take.new.self t.sole.now
    c.take-2.new.self n 1 r (can_take t.creature t.sole.now 1 c.requires.ready c.args.block.size c.args.block.at c.requires.none c.requires.one
    c.requires.few c.requires.room) (omega arith) (omega arith) c.take.ensures done) c.take-2.ensures
