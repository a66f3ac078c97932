use Rattle.std.proofs.Common.{refl, arith}
use Rattle.std.specs.Prelude.{Some, slice_index}
use Rattle.tierra_model.specs.declared.events.Event.TheVariants as event
use Rattle.tierra_model.specs.Step.{flip_bit}
use Rattle.tierra_model.proofs.Records.{flipped_below}
use Rattle.tierra_model.proofs.WithinRun.{cells_below}
use Rattle.serial_slicer.proofs.Turns.{frame_after, ready_after, state_after}
use Rattle.serial_slicer.proofs.turn.CreatureTurnGround.flip.Goals as goal

pub flip-requires-clause-inside : goal.flip-requires-clause-inside
flip-requires-clause-inside c =
    let t = c.args.self.now in
    let p = c.requires.ready.world.within.population in
    omega (arith, p.cells, p.size, c.requires.inside)

pub returns-clause-state : goal.returns-clause-state
returns-clause-state c =
    let t = c.args.self.now in
    state_after t.creature t.sole.now 1 c.requires.ready (event.Write c.args.at (flip_bit (slice_index t.sole.now.world.soup c.args.at) (Some c.args.bit)))
    t.creature c.flip.new.self refl c.flip.ensures

pub returns-clause-frame : goal.returns-clause-frame
returns-clause-frame c =
    let t = c.args.self.now in
    frame_after (event.Write c.args.at (flip_bit (slice_index t.sole.now.world.soup c.args.at) (Some c.args.bit))) t.sole.now c.flip.new.self
    t.sole.ghost_name c.flip.ensures

pub returns-clause-ready : goal.returns-clause-ready
returns-clause-ready c = λ n r.
    let t = c.args.self.now in
    let value = flip_bit (slice_index t.sole.now.world.soup c.args.at) (Some c.args.bit) in
    let below = flipped_below (slice_index t.sole.now.world.soup c.args.at) (Some c.args.bit)
    (cells_below t.sole.now.world.soup r.world.within.codes c.args.at) c.requires.bit in
    ready_after (event.Write c.args.at value) t.creature t.creature t.sole.now c.flip.new.self n 1 r (c.requires.inside, below) (omega arith) (omega arith) refl
    c.flip.ensures
