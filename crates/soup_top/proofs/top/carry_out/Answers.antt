use Rattle.std.proofs.Common.{rules, ◌≡◌, sym, subst, Result, IfErr, OnOk}
use Rattle.desk_io.specs.Desk.{DeskState}
use Rattle.soup_top.specs.declared.asking.Task.{Task}
use Rattle.soup_top.specs.declared.stop.RunStop.{RunStop}
use Rattle.soup_top.specs.Ending.{HasMomentsFor, IsDoneFor, IsStoppedFor}
use Rattle.soup_top.specs.declared.asking.Task.TheVariants as task
use Rattle.soup_top.proofs.ToldMoments.{told_at_once}
use Rattle.soup_top.proofs.top.carry_out.Given.{Over}
use Rattle.soup_top.proofs.top.carry_out.Goals as goal
use Rattle.soup_top.proofs.top.carry_out.Goals.{After-tell}

-- what one task leaves is what the other leaves, which it is
done_as : (t other : Task) (old new : DeskState) (r : Result (Unit {0}) RunStop) → t ≡ other → OnOk r (IsDoneFor other old new)
    → OnOk r (IsDoneFor t old new)
done_as t other old new r is done = subst (λ (x : Task). OnOk r (IsDoneFor x old new)) (sym is) done

stopped_as : (t other : Task) (old new : DeskState) (r : Result (Unit {0}) RunStop) → t ≡ other → IfErr r (IsStoppedFor other old new)
    → IfErr r (IsStoppedFor t old new)
stopped_as t other old new r is stopped = subst (λ (x : Task). IfErr r (IsStoppedFor x old new)) (sym is) stopped

moments_as : (t other : Task) (old new : DeskState) → t ≡ other → HasMomentsFor other old new → HasMomentsFor t old new
moments_as t other old new is moments = subst (λ (x : Task). HasMomentsFor x old new) (sym is) moments

pub returns-in-Run-clause-done : goal.returns-in-Run-clause-done
returns-in-Run-clause-done g c =
    done_as _ _ (g.D.Desk.state c.args.desk.now) (g.D.Desk.state c.run.new.desk) c.run.result c.in-Run.is c.run.ensures.done

pub returns-in-Run-clause-stopped : goal.returns-in-Run-clause-stopped
returns-in-Run-clause-stopped g c =
    stopped_as _ _ (g.D.Desk.state c.args.desk.now) (g.D.Desk.state c.run.new.desk) c.run.result c.in-Run.is c.run.ensures.stopped

pub returns-in-Run-clause-moments : goal.returns-in-Run-clause-moments
returns-in-Run-clause-moments g c =
    moments_as _ _ (g.D.Desk.state c.args.desk.now) (g.D.Desk.state c.run.new.desk) c.in-Run.is c.run.ensures.moments

-- the text of a source is told, and no disk call is made
text_moments : (g : Over) (c : After-tell g) → HasMomentsFor c.args.task (g.D.Desk.state c.args.desk.now) (g.D.Desk.state c.tell.new.self)
text_moments g c =
    let told : c.deref.result.now ≡ c.in-Tell.text = search rules in
    moments_as c.args.task (task.Tell c.in-Tell.text) (g.D.Desk.state c.args.desk.now) (g.D.Desk.state c.tell.new.self) c.in-Tell.is (record {
      crash = tt;
      kept_up = tt;
      quiet_run = tt;
      checkpoints = tt;
      quiet_hold = tt;
      telling = told_at_once (task.Tell c.in-Tell.text) (g.D.Desk.state c.args.desk.now) (g.D.Desk.state c.tell.new.self) c.deref.result.now
          c.tell.ensures.call.tells told;
    })

pub returns-in_err-tell-in-Tell-clause-moments : goal.returns-in_err-tell-in-Tell-clause-moments
returns-in_err-tell-in-Tell-clause-moments g c = text_moments g (goal.at.returns-in_err-tell-in-Tell-clause-moments g c).After-tell

pub returns-in_ok-tell-in-Tell-clause-moments : goal.returns-in_ok-tell-in-Tell-clause-moments
returns-in_ok-tell-in-Tell-clause-moments g c = text_moments g (goal.at.returns-in_ok-tell-in-Tell-clause-moments g c).After-tell

pub returns-in-Bank-clause-done : goal.returns-in-Bank-clause-done
returns-in-Bank-clause-done g c =
    done_as _ _ (g.D.Desk.state c.args.desk.now) (g.D.Desk.state c.tell_bank.new.desk) c.tell_bank.result c.in-Bank.is c.tell_bank.ensures.done

pub returns-in-Bank-clause-stopped : goal.returns-in-Bank-clause-stopped
returns-in-Bank-clause-stopped g c =
    stopped_as _ _ (g.D.Desk.state c.args.desk.now) (g.D.Desk.state c.tell_bank.new.desk) c.tell_bank.result c.in-Bank.is
    c.tell_bank.ensures.stopped

pub returns-in-Probe-clause-done : goal.returns-in-Probe-clause-done
returns-in-Probe-clause-done g c =
    done_as _ _ (g.D.Desk.state c.args.desk.now) (g.D.Desk.state c.tell_probe.new.desk) c.tell_probe.result c.in-Probe.is
    c.tell_probe.ensures.done

pub returns-in-Probe-clause-stopped : goal.returns-in-Probe-clause-stopped
returns-in-Probe-clause-stopped g c =
    stopped_as _ _ (g.D.Desk.state c.args.desk.now) (g.D.Desk.state c.tell_probe.new.desk) c.tell_probe.result c.in-Probe.is
    c.tell_probe.ensures.stopped

pub returns-in-Watch-clause-done : goal.returns-in-Watch-clause-done
returns-in-Watch-clause-done g c =
    done_as _ _ (g.D.Desk.state c.args.desk.now) (g.D.Desk.state c.watch_and_tell.new.desk) c.watch_and_tell.result c.in-Watch.is
    c.watch_and_tell.ensures.done

pub returns-in-Watch-clause-stopped : goal.returns-in-Watch-clause-stopped
returns-in-Watch-clause-stopped g c =
    stopped_as _ _ (g.D.Desk.state c.args.desk.now) (g.D.Desk.state c.watch_and_tell.new.desk) c.watch_and_tell.result c.in-Watch.is
    c.watch_and_tell.ensures.stopped

pub returns-in-Hold-clause-done : goal.returns-in-Hold-clause-done
returns-in-Hold-clause-done g c =
    done_as _ _ (g.D.Desk.state c.args.desk.now) (g.D.Desk.state c.hold_and_tell.new.desk) c.hold_and_tell.result c.in-Hold.is
    c.hold_and_tell.ensures.done

pub returns-in-Hold-clause-stopped : goal.returns-in-Hold-clause-stopped
returns-in-Hold-clause-stopped g c =
    stopped_as _ _ (g.D.Desk.state c.args.desk.now) (g.D.Desk.state c.hold_and_tell.new.desk) c.hold_and_tell.result c.in-Hold.is
    c.hold_and_tell.ensures.stopped

pub returns-in-Hold-clause-moments : goal.returns-in-Hold-clause-moments
returns-in-Hold-clause-moments g c =
    moments_as _ _ (g.D.Desk.state c.args.desk.now) (g.D.Desk.state c.hold_and_tell.new.desk) c.in-Hold.is c.hold_and_tell.ensures.moments
