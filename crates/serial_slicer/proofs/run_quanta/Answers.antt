use Rattle.std.proofs.Common.{refl, sym, ◌∙◌, arith}
use Rattle.serial_slicer.proofs.Serials.{goes_on, sound_at, starts}
use Rattle.serial_slicer.proofs.run_quanta.Goals as goal

pub loop-quantum-init : goal.loop-quantum-init
loop-quantum-init g c = starts c.args.sole.now.world c.args.sole.now.world refl

pub run_quantum-requires-clause-sound : goal.run_quantum-requires-clause-sound
run_quantum-requires-clause-sound g c =
    (sound_at c.loop-quantum._quantum c.args.sole.now.world c.loop-quantum.sole.world c.requires.sound (omega (arith, c.requires.few))
    c.loop-quantum.invariant).sound

pub run_quantum-requires-clause-more : goal.run_quantum-requires-clause-more
run_quantum-requires-clause-more g c =
    omega (
      arith,
      c.loop-quantum-test.true,
      c.requires.few,
      (sound_at c.loop-quantum._quantum c.args.sole.now.world c.loop-quantum.sole.world c.requires.sound (omega (arith, c.requires.few))
          c.loop-quantum.invariant).quanta,
    )

pub run_quantum-requires-clause-settings : goal.run_quantum-requires-clause-settings
run_quantum-requires-clause-settings g c =
    c.settings.ensures
    ∙ sym (sound_at c.loop-quantum._quantum c.args.sole.now.world c.loop-quantum.sole.world c.requires.sound (omega (arith, c.requires.few))
    c.loop-quantum.invariant).settings

pub loop-quantum-preserved : goal.loop-quantum-preserved
loop-quantum-preserved g c =
    goes_on c.loop-quantum._quantum c.args.sole.now.world c.loop-quantum.sole.world c.run_quantum.new.sole.world c.loop-quantum.invariant
    c.in_ok-run_quantum.ensures.world

pub returns-clause-sound : goal.returns-clause-sound
returns-clause-sound g c =
    (sound_at c.loop-quantum._quantum c.args.sole.now.world c.loop-quantum.sole.world c.requires.sound (omega (arith, c.requires.few))
    c.loop-quantum.invariant).sound
