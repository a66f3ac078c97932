use Rattle.std.proofs.Common.{rules, ◌≡◌, ◌+◌, ◌*◌, ◌≤◌, ℕ, sym, ◌∙◌, ap, subst, arith}
use Rattle.tierra_model.specs.declared.creatures.Creature.{Creature}
use Rattle.tierra_model.specs.Quantum.{run, slice_of, world_machine}
use Rattle.tierra_model.specs.World.{front}
use Rattle.world_core.proofs.Within.{running-sound}
use Rattle.quantum_core.specs.Frame.{Frame}
use Rattle.serial_slicer.proofs.Turns.{begun, begun_is, fits, quantum_is, runs, slice_few}
use Rattle.serial_slicer.proofs.turn.run_quantum.Goals as goal

pub begin_turn-creature-requires : goal.begin_turn-creature-requires
begin_turn-creature-requires g c = running-sound c.args.sole.now.world c.requires.sound

pub run_slice-requires-clause-ready : goal.run_slice-requires-clause-ready
run_slice-requires-clause-ready g c =
    let few : c.slice_of-slice.result ≤ 10000 =
    subst (λ n. n ≤ 10000) (sym c.slice_of-slice.ensures) (slice_few c.begin_turn-creature.result.own.size c.args.settings.now) in
    let b = c.begin_turn-creature.ensures in
    begun c.args.sole.now.world c.begin_turn-creature.result c.begin_turn-creature.new.self (4 * c.slice_of-slice.result + 1) c.requires.sound c.requires.more
    (omega (arith, few)) b.world b.record b.turn

pub end_turn-requires-clause-within : goal.end_turn-requires-clause-within
end_turn-requires-clause-within g c =
    let t = c.run_slice.new.ground in
    runs t.creature t.sole.now 0 c.in_ok-run_slice.ensures.ready

pub end_turn-requires-clause-fits : goal.end_turn-requires-clause-fits
end_turn-requires-clause-fits g c =
    let t = c.run_slice.new.ground in
    fits t.creature t.sole.now 0 c.in_ok-run_slice.ensures.ready

pub returns-clause-world : goal.returns-clause-world
returns-clause-world g c =
    let s = c.args.settings.now in
    let w = c.args.sole.now.world in
    let b = c.begin_turn-creature.ensures in
    let n = c.slice_of-slice.result in
    let began = begun_is w c.begin_turn-creature.result c.begin_turn-creature.new.self (running-sound w c.requires.sound) b.world b.record in
    let slice : n ≡ slice_of (front w).own.size s = c.slice_of-slice.ensures ∙ ap (λ (x : Creature). slice_of x.own.size s) b.record in
    let number : c.quanta-quantum.result + 1 ≡ w.quanta + 1 = ap (λ (k : ℕ). k + 1) c.quanta-quantum.ensures in
    let ended =
    c.end_turn.ensures
    ∙ quantum_is s w _ (c.quanta-quantum.result + 1) n c.requires.settings number slice
    (c.in_ok-run_slice.ensures.state ∙ ap (run world_machine s (c.quanta-quantum.result + 1) n) began) in
    let lent = ap (λ (f : Frame). f.lent) c.in_ok-run_slice.ensures.frame in
    search (rules, lent, ended)

pub returns-clause-ticks : goal.returns-clause-ticks
returns-clause-ticks g c =
    let w = c.args.sole.now.world in
    let slice : c.slice_of-slice.result ≡ slice_of (front w).own.size w.settings =
    c.slice_of-slice.ensures
    ∙ (λ j. slice_of (c.begin_turn-creature.ensures.record j).own.size (c.requires.settings j)) in
    omega (arith, c.in_ok-run_slice.ensures.ticks, slice)
