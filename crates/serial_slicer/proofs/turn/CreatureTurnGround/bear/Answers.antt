use Rattle.std.proofs.Common.{refl, sym, ◌∙◌, ap, arith}
use Rattle.std.proofs.lemmas.Result.{on_ok_weaker}
use Rattle.tierra_model.specs.declared.creatures.Creature.{Creature}
use Rattle.tierra_model.specs.declared.events.Event.TheVariants as event
use Rattle.tierra_model.specs.Events.{apply_event}
use Rattle.tierra_model.specs.World.{put}
use Rattle.serial_slicer.proofs.Turns.{can_bear, few, frame_after, now, ready_after, runs, state_after}
use Rattle.serial_slicer.proofs.turn.CreatureTurnGround.bear.Goals as goal

pub bear-requires : goal.bear-requires
bear-requires c = let t = c.args.self.now in omega (arith, (few t.creature t.sole.now 2 c.requires.ready).1)

pub bear-requires-2-clause-within : goal.bear-requires-2-clause-within
bear-requires-2-clause-within c = let t = c.args.self.now in runs t.creature t.sole.now 2 c.requires.ready

pub bear-requires-2-clause-can : goal.bear-requires-2-clause-can
bear-requires-2-clause-can c = let t = c.args.self.now in
    can_bear t.creature t.sole.now 2 c.requires.ready t.creature.ran t.creature.moved c.requires.held refl c.requires.ran

pub returns-clause-state : goal.returns-clause-state
returns-clause-state c =
    let t = c.args.self.now in
    on_ok_weaker c.bear-2.result (λ done.
    state_after t.creature t.sole.now 2 c.requires.ready (event.Divide t.creature.ran t.creature.moved) c.bear.new.self c.bear-2.new.self c.bear.ensures done
    ∙ ap (λ (x : Creature). apply_event (put t.creature t.sole.now.world) (event.Divide x.ran x.moved)) (sym (now t.creature t.sole.now 2 c.requires.ready)))
    c.bear-2.ensures

pub returns-clause-frame : goal.returns-clause-frame
returns-clause-frame c =
    let t = c.args.self.now in
    on_ok_weaker c.bear-2.result (λ done. frame_after (event.Divide t.creature.ran t.creature.moved) t.sole.now c.bear-2.new.self t.sole.ghost_name done)
    c.bear-2.ensures

pub returns-clause-ready : goal.returns-clause-ready
returns-clause-ready c =
    let t = c.args.self.now in
    on_ok_weaker c.bear-2.result (λ done. λ n r. ready_after (event.Divide t.creature.ran t.creature.moved) t.creature c.bear.new.self t.sole.now
    c.bear-2.new.self n 2 r (can_bear t.creature t.sole.now 2 c.requires.ready t.creature.ran t.creature.moved c.requires.held refl c.requires.ran)
    (omega arith) (omega arith) c.bear.ensures done) c.bear-2.ensures
