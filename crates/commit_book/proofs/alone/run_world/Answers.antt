use Rattle.std.proofs.Common.{sym, subst}
use Rattle.std.proofs.lemmas.Result.{IfOk-weaker}
use Rattle.tierra_model.specs.World.{World}
use Rattle.commit_book.specs.Alone.{CanRun, WorksOn, ran_on}
use Rattle.commit_book.specs.Book.{BookFields}
use Rattle.commit_book.specs.Kept.{IsBook}
use Rattle.commit_book.proofs.InPlace.{sound-world}
use Rattle.commit_book.proofs.alone.run_world.Goals as goal

pub run_quanta-requires : goal.run_quanta-requires
run_quanta-requires g c =
    let b : BookFields = c.requires.0 in
    (b, subst (λ (w : World). CanRun c.args.kept c.args.last b w c.args.history.now) (sym c.in_ok-run.ensures) c.requires.1)

pub finish-requires : goal.finish-requires
finish-requires g c =
    let b : BookFields = c.requires.0 in
    let can = subst (λ (w : World). CanRun c.args.kept c.args.last b w c.args.history.now) (sym c.in_ok-run.ensures) c.requires.1 in
    sound-world (ran_on b c.run_quanta.new.history) c.run_quanta.new.run c.requires.1.setup (c.in_ok-run_quanta.ensures.book b can)

pub returns-clause-works : goal.returns-clause-works
returns-clause-works g c = λ b can.
    let can' = subst (λ (w : World). CanRun c.args.kept c.args.last b w c.args.history.now) (sym c.in_ok-run.ensures) can in
    IfOk-weaker c.finish.result _ (λ w. WorksOn c.args.kept c.args.last b (ran_on b c.run_quanta.new.history) c.args.steps.now c.run_quanta.new.steps)
    (λ w is. c.in_ok-run_quanta.ensures.works b can')
    c.finish.ensures

pub returns-clause-book : goal.returns-clause-book
returns-clause-book g c = λ b can.
    let can' = subst (λ (w : World). CanRun c.args.kept c.args.last b w c.args.history.now) (sym c.in_ok-run.ensures) can in
    IfOk-weaker c.finish.result _ (λ w. IsBook (ran_on b c.run_quanta.new.history) w.world)
    (λ w is. subst (IsBook (ran_on b c.run_quanta.new.history)) (sym is) (c.in_ok-run_quanta.ensures.book b can'))
    c.finish.ensures
