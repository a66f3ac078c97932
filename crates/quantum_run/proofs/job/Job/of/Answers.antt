use Rattle.std.proofs.Common.{◌-◌}
use Rattle.std.specs.Arc.{arc_value}
use Rattle.quantum_run.specs.Job.{OfSoundWorld}
use Rattle.quantum_run.proofs.Crowds.{job_few}
use Rattle.quantum_run.proofs.job.Job.of.Goals as goal

pub invariant_of-result : goal.invariant_of-result
invariant_of-result c =
    let sound : OfSoundWorld (record {
      settings = c.in_ok-sheet.sheet.value.settings;
      quanta = c.args.quantum - 1;
      front = c.in_ok-sheet.sheet.value.before;
      soup = c.args.cells;
      free = arc_value c.args.free;
      yard = arc_value c.args.yard;
    }) = rw (c.in_ok-sheet.ensures.settings, c.in_ok-sheet.ensures.before) c.requires.sound in
    (c.requires.one, job_few _ c.requires.sound, sound)
