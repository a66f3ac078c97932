use Rattle.std.proofs.Common.{◌∙◌, ap, arith}
use Rattle.std.proofs.lemmas.Result.{on_ok_weaker}
use Rattle.tierra_model.specs.declared.creatures.Creature.{Creature}
use Rattle.tierra_model.specs.declared.events.Event.TheVariants as event
use Rattle.serial_slicer.proofs.Turns.{can_give_up, frame_after, now, ready_after, runs, state_after}
use Rattle.serial_slicer.proofs.turn.CreatureTurnGround.give_up.Goals as goal

pub give_up-requires-2-clause-within : goal.give_up-requires-2-clause-within
give_up-requires-2-clause-within c = let t = c.args.self.now in runs t.creature t.sole.now 1 c.requires.ready

pub give_up-requires-2-clause-can : goal.give_up-requires-2-clause-can
give_up-requires-2-clause-can c = let t = c.args.self.now in can_give_up t.creature t.sole.now 1 c.requires.ready c.requires.held

pub returns-clause-state : goal.returns-clause-state
returns-clause-state c =
    let t = c.args.self.now in
    on_ok_weaker c.give_up-2.result (λ done. state_after t.creature t.sole.now 1 c.requires.ready (event.GiveUp) c.give_up.new.self c.give_up-2.new.self
    c.give_up.ensures done) c.give_up-2.ensures

pub returns-clause-frame : goal.returns-clause-frame
returns-clause-frame c =
    let t = c.args.self.now in
    on_ok_weaker c.give_up-2.result (λ done. frame_after (event.GiveUp) t.sole.now c.give_up-2.new.self t.sole.ghost_name done) c.give_up-2.ensures

pub returns-clause-ready : goal.returns-clause-ready
returns-clause-ready c =
    let t = c.args.self.now in
    on_ok_weaker c.give_up-2.result (λ done. λ n r. ready_after (event.GiveUp) t.creature c.give_up.new.self t.sole.now c.give_up-2.new.self n 1 r
    (can_give_up t.creature t.sole.now 1 c.requires.ready c.requires.held) (omega arith) (omega arith) c.give_up.ensures done) c.give_up-2.ensures

pub returns-clause-none : goal.returns-clause-none
returns-clause-none c =
    let t = c.args.self.now in
    on_ok_weaker c.give_up-2.result (λ done.
    let after = ready_after event.GiveUp t.creature c.give_up.new.self t.sole.now c.give_up-2.new.self 0 1 c.requires.ready
    (can_give_up t.creature t.sole.now 1 c.requires.ready c.requires.held)
    (omega arith) (omega arith) c.give_up.ensures done in
    ap (λ (x : Creature). x.daughter) (now c.give_up.new.self c.give_up-2.new.self 0 after ∙ c.give_up.ensures)) c.give_up-2.ensures
