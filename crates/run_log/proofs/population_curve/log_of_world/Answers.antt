use Rattle.std.proofs.Common.{◌≡◌, ◌∙◌, ◌+◌, ◌++◌, ℕ, List, ap, sym, arith, length}
use Rattle.std.specs.List.{range_with_len}
use Rattle.tierra_model.specs.Living.{ids_of}
use Rattle.tierra_model.specs.Quantum.{quantum}
use Rattle.tierra_model.specs.Serial.{serial, start}
use Rattle.tierra_model.specs.Setups.{IsSetup, SetupFields}
use Rattle.tierra_model.specs.World.{World}
use Rattle.serial_slicer.proofs.Serials.{serial-next}
use Rattle.run_log.specs.declared.record.Record.{Record}
use Rattle.run_log.specs.Curve.{records_in, run_records}
use Rattle.run_log.specs.Records.{point_of, up_to}
use Rattle.run_log.proofs.Runs.{IsAt, is-at, points-are, run-more, run-none, serial-none, start-count, start-ids, turn-living, turn-order}
use Rattle.run_log.proofs.population_curve.log_of_world.Goals as goal

pub new-log-requires : goal.new-log-requires
new-log-requires c =
    let setup : SetupFields = c.args.setup.now in
    let h : IsSetup setup = c.count_of-inoculated.ensures.setup in
    let inoculated : c.count_of-inoculated.result ≡ length (start setup).living =
    c.count_of-inoculated.ensures.count ∙ start-count setup in
    let at_start : IsAt setup 0 (start setup) = is-at setup 0 (start setup) h (omega arith) (sym (serial-none setup)) in
    omega (arith, inoculated, at_start.few)

pub numbers-requires : goal.numbers-requires
numbers-requires c =
    let setup : SetupFields = c.args.setup.now in
    let h : IsSetup setup = c.count_of-inoculated.ensures.setup in
    let inoculated : c.count_of-inoculated.result ≡ length (start setup).living =
    c.count_of-inoculated.ensures.count ∙ start-count setup in
    let at_start : IsAt setup 0 (start setup) = is-at setup 0 (start setup) h (omega arith) (sym (serial-none setup)) in
    omega (arith, inoculated, at_start.few)

pub loop-before-init : goal.loop-before-init
loop-before-init c =
    let setup : SetupFields = c.args.setup.now in
    let h : IsSetup setup = c.count_of-inoculated.ensures.setup in
    let inoculated : c.count_of-inoculated.result ≡ length (start setup).living =
    c.count_of-inoculated.ensures.count ∙ start-count setup in
    let began = c.requires.begins in
    record {
      run = began ∙ sym (serial-none setup);
      inoculated = c.new-log.ensures.inoculated ∙ inoculated;
      records = c.new-log.ensures.records ∙ sym (run-none setup);
      living = c.in_ok-living.ensures ∙ ap (range_with_len 1) inoculated ∙ sym (start-ids setup) ∙ ap (λ (u : World). ids_of u.living) (sym began);
    }

pub note_quantum-requires-clause-sound : goal.note_quantum-requires-clause-sound
note_quantum-requires-clause-sound c =
    let at = is-at c.args.setup.now c.loop-before.before c.loop-before.run c.count_of-inoculated.ensures.setup
    (omega (arith, c.loop-before-test.true, c.requires.few)) c.loop-before.invariant.run in
    at.sound

pub note_quantum-requires-clause-quantum : goal.note_quantum-requires-clause-quantum
note_quantum-requires-clause-quantum c =
    let at = is-at c.args.setup.now c.loop-before.before c.loop-before.run c.count_of-inoculated.ensures.setup
    (omega (arith, c.loop-before-test.true, c.requires.few)) c.loop-before.invariant.run in
    omega (arith, at.quanta)

pub note_quantum-requires-clause-numbers : goal.note_quantum-requires-clause-numbers
note_quantum-requires-clause-numbers c =
    let at = is-at c.args.setup.now c.loop-before.before c.loop-before.run c.count_of-inoculated.ensures.setup
    (omega (arith, c.loop-before-test.true, c.requires.few)) c.loop-before.invariant.run in
    omega (arith, at.tracks.next_birth, c.count_of-inoculated.ensures.count, start-count c.args.setup.now)

pub note_quantum-requires-clause-noted : goal.note_quantum-requires-clause-noted
note_quantum-requires-clause-noted c =
    let at = is-at c.args.setup.now c.loop-before.before c.loop-before.run c.count_of-inoculated.ensures.setup
    (omega (arith, c.loop-before-test.true, c.requires.few)) c.loop-before.invariant.run in
    let run = c.loop-before.invariant in
    turn-living (length (start c.args.setup.now).living) c.loop-before.before c.loop-before.log.inoculated (run_records c.args.setup.now c.loop-before.before)
    c.loop-before.log.records
    c.loop-before.living.items c.loop-before.run at.tracks run.inoculated run.records run.living

pub note_quantum-requires-clause-order : goal.note_quantum-requires-clause-order
note_quantum-requires-clause-order c =
    turn-order c.args.setup.now c.loop-before.before c.loop-before.log.records c.count_of-inoculated.ensures.setup
    (omega (arith, c.loop-before-test.true, c.requires.few))
    c.loop-before.invariant.records

pub loop-before-preserved : goal.loop-before-preserved
loop-before-preserved c =
    let setup : SetupFields = c.args.setup.now in
    let n : ℕ = c.loop-before.before in
    let v : World = c.loop-before.run in
    let w : World = c.note_quantum.new.run in
    let noted = c.in_ok-living-2.ensures in
    let after : w ≡ serial setup (n + 1) = noted.run ∙ ap quantum c.loop-before.invariant.run ∙ sym (serial-next setup n) in
    record {
      run = after;
      inoculated = noted.inoculated ∙ c.loop-before.invariant.inoculated;
      records = noted.records ∙ ap (λ (rs : List Record). rs ++ records_in (n + 1) v w) c.loop-before.invariant.records
          ∙ ap (λ (u : World). run_records setup n ++ records_in (n + 1) u w) c.loop-before.invariant.run
          ∙ ap (λ (u : World). run_records setup n ++ records_in (n + 1) (serial setup n) u) after
          ∙ sym (run-more setup n);
      living = noted.living;
    }

pub returns-clause-records : goal.returns-clause-records
returns-clause-records c =
    let all : c.loop-before.before ≡ c.args.quanta = omega (arith, c.loop-before-test.false) in
    c.loop-before.invariant.records ∙ ap (run_records c.args.setup.now) all

pub returns-clause-counts : goal.returns-clause-counts
returns-clause-counts c =
    let setup : SetupFields = c.args.setup.now in
    let h : IsSetup setup = c.count_of-inoculated.ensures.setup in
    let all : c.loop-before.before ≡ c.args.quanta = omega (arith, c.loop-before-test.false) in
    λ q below. ap (λ (i : ℕ). point_of i (up_to q c.loop-before.log.records)) c.loop-before.invariant.inoculated
    ∙ ap (λ (rs : List Record). point_of (length (start setup).living) (up_to q rs)) (c.loop-before.invariant.records ∙ ap (run_records setup) all)
    ∙ points-are setup c.args.quanta q h c.requires.few below
