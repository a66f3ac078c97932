use Rattle.std.proofs.Common.{◌≡◌, ◌∙◌, ◌+◌, ◌<◌, ◌≤◌, ℕ, Some, ap, arith}
use Rattle.tierra_model.specs.declared.creatures.Creature.{Creature}
use Rattle.tierra_model.specs.declared.events.Event.TheVariants as event
use Rattle.tierra_model.specs.Events.{apply_event}
use Rattle.tierra_model.specs.Quantum.{mal, world_machine}
use Rattle.tierra_model.specs.Room.{is_owned, room_for}
use Rattle.tierra_model.specs.World.{put}
use Rattle.tierra_model.proofs.Free.{room_for_free}
use Rattle.serial_slicer.specs.ReadyLaws.{fewer}
use Rattle.serial_slicer.proofs.Again.{mal_again, ready_again, with_block}
use Rattle.serial_slicer.proofs.Turns.{frame_after, ready_after}
use Rattle.serial_slicer.proofs.turn.CreatureTurnGround.take_again.Goals as goal
use Rattle.serial_slicer.proofs.turn.CreatureTurnGround.take_again.Goals.{After-room_again}

pub take-requires : goal.take-requires
take-requires c =
    let t = c.args.self.now in
    let w = t.sole.now.world in
    let b = c.in-Some.block in
    let free : room_for w.settings (λ p. is_owned (apply_event w event.GiveUp).living p) b.size ≡ Some b.at = c.room_again.ensures.0 c.if-room_again.true in
    omega (arith, (room_for_free w.settings (λ p. is_owned (apply_event w event.GiveUp).living p) b.size b.at free).0, w.settings.soup)

pub returns-in-Some-clause-done : goal.returns-in-Some-clause-done
returns-in-Some-clause-done c =
    let t = c.args.self.now in
    λ yes. ap (λ (x : Creature). put x c.good.new.self.world) c.take.ensures
    ∙ mal_again t.creature t.sole.now 2 c.requires.ready c.in-Some.block c.in-Some.is c.good.new.self c.good.ensures (c.room_again.ensures.0 c.if-room_again.true)
    ∙ ap (λ (k : ℕ). mal world_machine t.sole.now.world.settings k (put t.creature t.sole.now.world)) c.if-block-size.true

pub returns-in-Some-clause-frame : goal.returns-in-Some-clause-frame
returns-in-Some-clause-frame c =
    let t = c.args.self.now in
    frame_after event.Good t.sole.now c.good.new.self t.sole.ghost_name c.good.ensures

pub returns-in-Some-clause-left : goal.returns-in-Some-clause-left
returns-in-Some-clause-left c =
    let t = c.args.self.now in
    λ yes n r. ready_after event.Good (with_block t.creature t.sole.now (n + 1) (fewer t.creature t.sole.now (n + 1 + 1) (n + 3) (omega arith) r) c.in-Some.block c.in-Some.is)
    c.take.new.self t.sole.now c.good.new.self n 1
    (ready_again t.creature t.sole.now (n + 1) (fewer t.creature t.sole.now (n + 1 + 1) (n + 3) (omega arith) r) c.in-Some.block c.in-Some.is)
    tt (omega arith) (omega arith) c.take.ensures c.good.ensures
