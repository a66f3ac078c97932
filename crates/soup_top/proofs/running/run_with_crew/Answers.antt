use Rattle.std.proofs.Common.{◌≡◌, ◌∙◌, refl, sym, ap, subst, ℕ, length}
use Rattle.std.specs.Prelude.{MatchOption, Some}
use Rattle.std.proofs.lemmas.Result.{IfErr-weaker, IfOk-weaker}
use Rattle.bank_journal.specs.Bank.{BankState}
use Rattle.bank_journal.proofs.Times.{always_ok}
use Rattle.tierra_model.specs.Serial.{serial}
use Rattle.tierra_model.specs.Setups.{SetupFields}
use Rattle.report_text.specs.Report.{report}
use Rattle.soup_top.specs.Handing.{HasStopped, HasTaken, TookAll}
use Rattle.soup_top.specs.Sources.{run_groups, run_report}
use Rattle.soup_top.proofs.Handed.{none_stopped, stopped_as, took_none, want_stops}
use Rattle.soup_top.proofs.RunMoments.{report-of-run}
use Rattle.soup_top.proofs.running.run_with_crew.Given.{Over}
use Rattle.soup_top.proofs.running.run_with_crew.Goals as goal
use Rattle.soup_top.proofs.running.run_with_crew.Goals.{After-report_of, After-run_book-ran}

pub run_book-ran-requires-clause-way : goal.run_book-ran-requires-clause-way
run_book-ran-requires-clause-way g c κs within =
    let bank = c.args.bank in
    rw (c.of.ensures, c.of-2.ensures, c.of-3.ensures)
    (bank, refl, took_none bank (run_groups c.args.plan.setup c.args.plan.quanta) (g.D.Desk.state c.args.desk.now) c.requires.attached)

-- how far the groups were taken when the crew has ended
way : (g : Over) (c : After-run_book-ran g) → let keeper = c.run_book-ran.new.keeper in MatchOption keeper.stopped
    ((b : BankState) × (keeper.bank ≡ Some b) × HasTaken c.args.bank (run_groups c.args.plan.setup c.args.plan.quanta) (g.D.Desk.state c.args.desk.now)
    (g.D.Desk.state c.run_book-ran.new.desk) keeper.done b)
    (HasStopped c.args.bank (run_groups c.args.plan.setup c.args.plan.quanta) (g.D.Desk.state c.args.desk.now) (g.D.Desk.state c.run_book-ran.new.desk))
way g c = rw (c.of.ensures, c.of-2.ensures, c.of-3.ensures) at c.run_book-ran.ensures.way

pub returns-in_default-ran-clause-stopped : goal.returns-in_default-ran-clause-stopped
returns-in_default-ran-clause-stopped g c =
    let keeper = c.run_book-ran.new.keeper in
    let run = run_groups c.args.plan.setup c.args.plan.quanta in
    let old = g.D.Desk.state c.args.desk.now in
    let now = g.D.Desk.state c.run_book-ran.new.desk in
    subst (HasStopped c.args.bank run old now) (sym c.unwrap_or.ensures)
    (stopped_as (HasTaken c.args.bank run old now keeper.done) (HasStopped c.args.bank run old now) keeper.bank keeper.stopped
    (λ b taken. want_stops taken) (way g (goal.at.returns-in_default-ran-clause-stopped g c).After-run_book-ran))

-- all were taken
took : (g : Over) (c : After-report_of g) → TookAll c.args.bank (run_groups c.args.plan.setup c.args.plan.quanta) (g.D.Desk.state c.args.desk.now)
    (g.D.Desk.state c.run_book-ran.new.desk)
took g c =
    let keeper = c.run_book-ran.new.keeper in
    let run = run_groups c.args.plan.setup c.args.plan.quanta in
    let old = g.D.Desk.state c.args.desk.now in
    let now = g.D.Desk.state c.run_book-ran.new.desk in
    let Took = HasTaken c.args.bank run old now keeper.done in
    let Stops = HasStopped c.args.bank run old now in
    let stood : MatchOption keeper.stopped ((b : BankState) × (keeper.bank ≡ Some b) × Took b) Stops =
    rw (c.of.ensures, c.of-2.ensures, c.of-3.ensures) at c.run_book-ran.ensures.way in
    let all = none_stopped Took Stops keeper.bank keeper.stopped stood c.in-Ended.ensures.halts in
    let count : keeper.done ≡ length run = rw c.of.ensures at c.in-Ended.ensures.all in
    (all.0, subst (λ (k : ℕ). HasTaken c.args.bank run old now k all.0) count all.1)

pub returns-clause-report : goal.returns-clause-report
returns-clause-report g c =
    let plan = c.args.plan in
    let book = c.in-Ended.book in
    let ended : (book.setup ≡ plan.setup) × (book.quanta ≡ plan.quanta) × (book.committed ≡ book.quanta) =
    rw c.of.ensures at c.in-Ended.ensures.ended in
    let world : serial book.setup book.committed ≡ serial plan.setup plan.quanta =
    ap (λ (x : SetupFields). serial x book.committed) ended.0 ∙ ap (serial plan.setup) (ended.2 ∙ ended.1) in
    IfOk-weaker c.report_of.result (λ text. text ≡ report (serial book.setup book.committed)) (λ text. text ≡ run_report plan.setup plan.quanta)
    (λ text is. report-of-run plan.setup plan.quanta (serial book.setup book.committed) text world is) c.report_of.ensures.report

pub returns-clause-took_all : goal.returns-clause-took_all
returns-clause-took_all g c = always_ok c.report_of.result _ (took g (goal.at.returns-clause-took_all g c).After-report_of)

pub returns-clause-stopped : goal.returns-clause-stopped
returns-clause-stopped g c =
    let Stops = HasStopped c.args.bank (run_groups c.args.plan.setup c.args.plan.quanta) (g.D.Desk.state c.args.desk.now)
    (g.D.Desk.state c.run_book-ran.new.desk) in
    let all = took g (goal.at.returns-clause-stopped g c).After-report_of in
    IfErr-weaker c.report_of.result _ Stops (λ cause is. subst Stops (sym is) (want_stops all.1)) c.report_of.ensures.memory
