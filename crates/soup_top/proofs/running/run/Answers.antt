use Rattle.std.proofs.Common.{◌≡◌, ◌∙◌, inl, sym, subst, List, ℕ, Option, Ok, Err}
use Rattle.std.proofs.lemmas.Result.{err_from_is_err_and}
use Rattle.desk_io.specs.Desk.{Appended, AppendedSome, HasNoFault, Tells}
use Rattle.desk_io.proofs.Telling.{as_told, lines_alone, none_told}
use Rattle.report_text.specs.Bank.{saved_lines}
use Rattle.soup_top.specs.Sources.{run_groups, run_report}
use Rattle.soup_top.specs.declared.stop.RunStop.TheVariants as stop
use Rattle.soup_top.proofs.Ending.{run_stops}
use Rattle.soup_top.proofs.Kept.{Keeps, kept_done, kept_moments, kept_stopped, stop_keeps, tell_ends, tell_fails}
use Rattle.soup_top.proofs.RunAnswers.{attach-quiet, attach-refused, attach-time, attached-keeps-up, attached-time, refused-no-hold}
use Rattle.soup_top.proofs.RunMoments.{report_has_bytes}
use Rattle.soup_top.proofs.Unfinished.{unless_telling}
use Rattle.soup_top.proofs.running.run.Given.{Over}
use Rattle.soup_top.proofs.running.run.Goals as goal
use Rattle.soup_top.proofs.running.run.Goals.{After-tell}

-- ---- where the bank is not attached

pub returns-in_err-bank-clause-stopped : goal.returns-in_err-bank-clause-stopped
returns-in_err-bank-clause-stopped g c =
    let plan = c.args.plan in
    let old = g.D.Desk.state c.args.desk.now in
    let new = g.D.Desk.state c.attach.new.desk in
    let result = err_from_is_err_and c.from_residual.result c.from_residual.ensures.1 in
    let cause = c.in_err-bank.field-0.0 in
    let lines = saved_lines (run_groups plan.setup plan.quanta) in
    let now = subst (λ (o : Option (List ℕ)). AppendedSome old.told lines o) (sym c.attach.ensures.moments.told) (as_told (none_told lines old.told)) in
    let less = lines_alone old.told new.told lines (run_report plan.setup plan.quanta) (report_has_bytes plan.setup plan.quanta) now in
    let refused = c.in_err-bank.ensures.refused in
    rw (result.1, result.2) (run_stops plan.setup plan.quanta plan.workers old new cause (inl c.attach.ensures.moments.told)
    (unless_telling cause _ less) (attach-refused cause plan.setup plan.quanta old new c.attach.ensures.moments.told refused)
    (refused-no-hold cause _ refused) (attach-quiet plan.setup plan.quanta old new c.attach.ensures.quiet))

pub returns-in_err-bank-clause-moments : goal.returns-in_err-bank-clause-moments
returns-in_err-bank-clause-moments g c =
    let plan = c.args.plan in
    let old = g.D.Desk.state c.args.desk.now in
    let new = g.D.Desk.state c.attach.new.desk in
    record {
      crash = λ disk. attached-time plan.setup plan.quanta (attach-time old new plan.setup c.attach.ensures.moments disk);
      kept_up = attached-keeps-up old new plan.setup plan.quanta c.attach.ensures.moments;
      quiet_run = attach-quiet plan.setup plan.quanta old new c.attach.ensures.quiet;
      checkpoints = tt;
      quiet_hold = tt;
      telling = tt;
    }

-- ---- where it is, and something stops the run before the report

pub returns-in_err-report-clause-stopped : goal.returns-in_err-report-clause-stopped
returns-in_err-report-clause-stopped g c =
    let plan = c.args.plan in
    let attached = c.in_ok-bank.ensures in
    let result = err_from_is_err_and c.from_residual-in_err-report.result c.from_residual-in_err-report.ensures.1 in
    let keeps = stop_keeps c.in_ok-bank.bank plan.setup plan.quanta (g.D.Desk.state c.attach.new.desk) (g.D.Desk.state c.run_with_crew.new.desk)
    c.in_err-report.field-0.0 c.in_err-report.ensures.stopped in
    rw (result.1, result.2)
    (kept_stopped plan.workers plan.few.1 attached.attached attached.kept c.attach.ensures.quiet c.attach.ensures.moments keeps)

pub returns-in_err-report-clause-moments : goal.returns-in_err-report-clause-moments
returns-in_err-report-clause-moments g c =
    let plan = c.args.plan in
    let attached = c.in_ok-bank.ensures in
    let keeps = stop_keeps c.in_ok-bank.bank plan.setup plan.quanta (g.D.Desk.state c.attach.new.desk) (g.D.Desk.state c.run_with_crew.new.desk)
    c.in_err-report.field-0.0 c.in_err-report.ensures.stopped in
    kept_moments plan.workers plan.few.1 attached.attached attached.kept c.attach.ensures.quiet c.attach.ensures.moments keeps

pub returns-in_err-report-clause-counts : goal.returns-in_err-report-clause-counts
returns-in_err-report-clause-counts g c =
    let result = err_from_is_err_and c.from_residual-in_err-report.result c.from_residual-in_err-report.ensures.1 in
    rw (result.1, result.2) c.in_err-report.ensures.stopped.counts

-- ---- and where the report is told

report_is : (g : Over) (c : After-tell g) → c.deref.result.now ≡ run_report c.args.plan.setup c.args.plan.quanta
report_is g c = c.deref.ensures.value ∙ c.report.view_is ∙ c.in_ok-report.ensures.report

tells : (g : Over) (c : After-tell g) → Tells (g.D.Desk.state c.run_with_crew.new.desk) (g.D.Desk.state c.tell.new.self)
    (run_report c.args.plan.setup c.args.plan.quanta) c.tell.result
tells g c = subst (λ (l : List ℕ). Tells (g.D.Desk.state c.run_with_crew.new.desk) (g.D.Desk.state c.tell.new.self) l c.tell.result) (report_is g c)
    c.tell.ensures.call.tells

fails : (g : Over) (c : After-tell g) → AppendedSome (g.D.Desk.state c.run_with_crew.new.desk).told c.deref.result.now (g.D.Desk.state c.tell.new.self).told
    → Keeps c.in_ok-bank.bank c.args.plan.setup c.args.plan.quanta (g.D.Desk.state c.attach.new.desk) (g.D.Desk.state c.tell.new.self) (Err stop.TellFault)
fails g c part =
    let mid = g.D.Desk.state c.run_with_crew.new.desk in
    let new = g.D.Desk.state c.tell.new.self in
    tell_fails c.in_ok-bank.bank c.args.plan.setup c.args.plan.quanta (g.D.Desk.state c.attach.new.desk) mid new c.in_ok-report.ensures.took_all
    c.tell.result (tells g c) (subst (λ (l : List ℕ). AppendedSome mid.told l new.told) (report_is g c) part)

pub returns-in_err-tell-clause-stopped : goal.returns-in_err-tell-clause-stopped
returns-in_err-tell-clause-stopped g c =
    let plan = c.args.plan in
    let attached = c.in_ok-bank.ensures in
    let result = err_from_is_err_and c.from_residual-in_err-tell.result c.from_residual-in_err-tell.ensures.1 in
    let keeps = fails g (goal.at.returns-in_err-tell-clause-stopped g c).After-tell c.in_err-tell.ensures.call.tells.text.partly in
    rw (result.1, result.2)
    (kept_stopped plan.workers plan.few.1 attached.attached attached.kept c.attach.ensures.quiet c.attach.ensures.moments keeps)

pub returns-in_err-tell-clause-moments : goal.returns-in_err-tell-clause-moments
returns-in_err-tell-clause-moments g c =
    let plan = c.args.plan in
    let attached = c.in_ok-bank.ensures in
    let keeps = fails g (goal.at.returns-in_err-tell-clause-moments g c).After-tell c.in_err-tell.ensures.call.tells.text.partly in
    kept_moments plan.workers plan.few.1 attached.attached attached.kept c.attach.ensures.quiet c.attach.ensures.moments keeps

ends : (g : Over) (c : After-tell g) → Appended (g.D.Desk.state c.run_with_crew.new.desk).told c.deref.result.now (g.D.Desk.state c.tell.new.self).told
    → HasNoFault (g.D.Desk.state c.tell.new.self)
    → Keeps c.in_ok-bank.bank c.args.plan.setup c.args.plan.quanta (g.D.Desk.state c.attach.new.desk) (g.D.Desk.state c.tell.new.self) (Ok tt)
ends g c all sound =
    let mid = g.D.Desk.state c.run_with_crew.new.desk in
    let new = g.D.Desk.state c.tell.new.self in
    tell_ends c.in_ok-bank.bank c.args.plan.setup c.args.plan.quanta (g.D.Desk.state c.attach.new.desk) mid new c.in_ok-report.ensures.took_all
    c.tell.result (tells g c) (subst (λ (l : List ℕ). Appended mid.told l new.told) (report_is g c) all) sound

pub returns-clause-done : goal.returns-clause-done
returns-clause-done g c =
    let plan = c.args.plan in
    let attached = c.in_ok-bank.ensures in
    let call = c.in_ok-tell.ensures.call in
    let keeps = ends g (goal.at.returns-clause-done g c).After-tell call.tells.text.all call.ok in
    kept_done plan.workers plan.few.1 attached.attached attached.kept c.attach.ensures.quiet c.attach.ensures.moments keeps

pub returns-clause-moments : goal.returns-clause-moments
returns-clause-moments g c =
    let plan = c.args.plan in
    let attached = c.in_ok-bank.ensures in
    let call = c.in_ok-tell.ensures.call in
    let keeps = ends g (goal.at.returns-clause-moments g c).After-tell call.tells.text.all call.ok in
    kept_moments plan.workers plan.few.1 attached.attached attached.kept c.attach.ensures.quiet c.attach.ensures.moments keeps
