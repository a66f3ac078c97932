use Rattle.std.proofs.Common.{refl, sym, ◌∙◌, arith}
use Rattle.tierra_model.specs.declared.events.Event.TheVariants as event
use Rattle.serial_slicer.proofs.Turns.{frame_after, now, ready_after, runs, state_after}
use Rattle.serial_slicer.proofs.turn.CreatureTurnGround.good.Goals as goal

pub good-requires : goal.good-requires
good-requires c = let t = c.args.self.now in runs t.creature t.sole.now 1 c.requires

pub returns-clause-state : goal.returns-clause-state
returns-clause-state c =
    let t = c.args.self.now in
    state_after t.creature t.sole.now 1 c.requires (event.Good) t.creature c.good.new.self refl c.good.ensures

pub returns-clause-frame : goal.returns-clause-frame
returns-clause-frame c =
    let t = c.args.self.now in
    frame_after (event.Good) t.sole.now c.good.new.self t.sole.ghost_name c.good.ensures

pub returns-clause-ready : goal.returns-clause-ready
returns-clause-ready c =
    let t = c.args.self.now in
    λ n r. ready_after (event.Good) t.creature t.creature t.sole.now c.good.new.self n 1 r (tt) (omega arith) (omega arith) refl c.good.ensures

pub returns-clause-front : goal.returns-clause-front
returns-clause-front c =
    let t = c.args.self.now in
    let after = ready_after event.Good t.creature t.creature t.sole.now c.good.new.self 0 1 c.requires tt (omega arith) (omega arith) refl c.good.ensures in
    now t.creature c.good.new.self 0 after ∙ sym (now t.creature t.sole.now 1 c.requires)
