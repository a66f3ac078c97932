use Rattle.std.proofs.Common.{refl, sym, ◌+◌, ◌∙◌, arith}
use Rattle.std.proofs.lemmas.Result.{on_ok_weaker}
use Rattle.tierra_model.specs.declared.events.Event.TheVariants as event
use Rattle.serial_slicer.specs.ReadyLaws.{fewer}
use Rattle.serial_slicer.proofs.Turns.{can_reap, frame_after, now, ready_after, runs, state_after}
use Rattle.serial_slicer.proofs.turn.CreatureTurnGround.reap.Goals as goal

pub reap-requires-clause-within : goal.reap-requires-clause-within
reap-requires-clause-within c = let t = c.args.self.now in runs t.creature t.sole.now 0 c.requires.ready

pub reap-requires-clause-can : goal.reap-requires-clause-can
reap-requires-clause-can c = let t = c.args.self.now in can_reap t.creature t.sole.now 0 c.requires.ready c.args.place c.requires.victim

pub returns-clause-state : goal.returns-clause-state
returns-clause-state c =
    let t = c.args.self.now in
    on_ok_weaker c.reap.result (λ done. state_after t.creature t.sole.now 0 c.requires.ready (event.Reap c.args.place) t.creature c.reap.new.self refl done)
    c.reap.ensures

pub returns-clause-frame : goal.returns-clause-frame
returns-clause-frame c =
    let t = c.args.self.now in
    on_ok_weaker c.reap.result (λ done. frame_after (event.Reap c.args.place) t.sole.now c.reap.new.self t.sole.ghost_name done) c.reap.ensures

pub returns-clause-ready : goal.returns-clause-ready
returns-clause-ready c =
    let t = c.args.self.now in
    on_ok_weaker c.reap.result (λ done. λ n r. ready_after (event.Reap c.args.place) t.creature t.creature t.sole.now c.reap.new.self n 0
    (fewer t.creature t.sole.now (n + 0) n (omega arith) r) (can_reap t.creature t.sole.now 0 c.requires.ready c.args.place c.requires.victim)
    (omega arith) (omega arith) refl done) c.reap.ensures

pub returns-clause-front : goal.returns-clause-front
returns-clause-front c =
    let t = c.args.self.now in
    on_ok_weaker c.reap.result (λ done.
    let after = ready_after (event.Reap c.args.place) t.creature t.creature t.sole.now c.reap.new.self 0 0 c.requires.ready
    (can_reap t.creature t.sole.now 0 c.requires.ready c.args.place c.requires.victim)
    (omega arith) (omega arith) refl done in
    now t.creature c.reap.new.self 0 after ∙ sym (now t.creature t.sole.now 0 c.requires.ready)) c.reap.ensures
