use Rattle.std.proofs.lemmas.Result.{err_from_is_err_and}
use Rattle.soup_top.proofs.Ending.{hold_stops}
use Rattle.soup_top.proofs.Resuming.{has_true_moments, leaves_the_last, resumes}
use Rattle.soup_top.proofs.top.hold_and_tell.Goals as goal

pub returns-in_err-hold-clause-stopped : goal.returns-in_err-hold-clause-stopped
returns-in_err-hold-clause-stopped g c =
    let stop = err_from_is_err_and c.from_residual.result c.from_residual.ensures.1 in
    rw (stop.1, stop.2) (hold_stops c.args.setup c.args.quanta c.args.every (g.D.Desk.state c.args.desk.now) (g.D.Desk.state c.hold.new.desk)
    c.in_err-hold.field-0.0 c.in_err-hold.ensures.stopped c.hold.ensures.quiet)

pub returns-in_err-hold-clause-moments : goal.returns-in_err-hold-clause-moments
returns-in_err-hold-clause-moments g c = record {
  crash = tt;
  kept_up = tt;
  quiet_run = tt;
  checkpoints = has_true_moments c.args.setup c.args.quanta c.args.every (g.D.Desk.state c.args.desk.now)
      (g.D.Desk.state c.hold.new.desk) c.hold.ensures.setup c.requires.few.1 c.requires.few.0 c.hold.ensures.moments;
  quiet_hold = c.hold.ensures.quiet;
  telling = tt;
}

pub returns-clause-done : goal.returns-clause-done
returns-clause-done g c =
    let done = c.in_ok-hold.ensures.done in
    record {
      told = done.told;
      begins = tt;
      small = done.small;
      resumed = resumes c.args.setup c.args.quanta c.args.every (g.D.Desk.state c.args.desk.now)
          (g.D.Desk.state c.hold.new.desk) c.hold.ensures.setup c.requires.few.1 c.requires.few.0 done.told;
      last = leaves_the_last c.args.setup c.args.quanta c.args.every (g.D.Desk.state c.args.desk.now)
          (g.D.Desk.state c.hold.new.desk) c.hold.ensures.setup c.requires.few.1 c.requires.few.0 done.last;
    }

pub returns-clause-moments : goal.returns-clause-moments
returns-clause-moments g c = record {
  crash = tt;
  kept_up = tt;
  quiet_run = tt;
  checkpoints = has_true_moments c.args.setup c.args.quanta c.args.every (g.D.Desk.state c.args.desk.now)
      (g.D.Desk.state c.hold.new.desk) c.hold.ensures.setup c.requires.few.1 c.requires.few.0 c.hold.ensures.moments;
  quiet_hold = c.hold.ensures.quiet;
  telling = tt;
}
