use Rattle.std.proofs.Common.{◌≡◌, ◌∙◌, ap, arith, subst, length}
use Rattle.std.specs.Prelude.{IfOk}
use Rattle.std.proofs.lemmas.Result.{IfOk-weaker}
use Rattle.tierra_model.specs.World.{World}
use Rattle.commit_book.specs.Alone.{Pauses, WorksOn, last_of, number_saved}
use Rattle.commit_book.specs.Book.{BookFields}
use Rattle.commit_book.proofs.Working.{goes_on, works_then}
use Rattle.commit_book.proofs.book.Book.work_on.Goals as goal

pub findings-preserved : goal.findings-preserved
findings-preserved g c =
    let on : Pauses c.kept-kept.result c.min-last.result c.findings.book → ⊥ = λ p. (let e = c.pauses.ensures.1 p in cc) in
    record {
      working = goes_on c.kept-kept.result c.min-last.result c.args.self c.findings.book c.commit_next.new.self c.args.steps.now c.findings.steps
          c.commit_next.new.steps c.findings.invariant.working on
          c.in_ok-commit_next.ensures.book c.in_ok-commit_next.ensures.steps;
      quanta = ap (λ (b : BookFields). b.quanta) c.in_ok-commit_next.ensures.book ∙ c.findings.invariant.quanta;
    }

pub returns : goal.returns
returns g c =
    let b : BookFields = c.args.self in
    let kept : c.kept-kept.result ≡ number_saved b =
    c.kept-kept.ensures ∙ ap (λ (w : World). length w.saved) c.self.invariant.book.world ∙ ap number_saved c.self.view_is in
    let quanta = ap (λ (x : BookFields). x.quanta) c.self.view_is in
    let committed = ap (λ (x : BookFields). x.committed) c.self.view_is in
    let last : c.min-last.result ≡ last_of c.args.most b =
    omega (arith, c.self.invariant.book.few, c.min-last.ensures, c.saturating_add.ensures, quanta, committed) in
    let u = c.run_in_place.new.steps in
    subst (λ n. IfOk c.run_in_place.result (λ x. WorksOn n (last_of c.args.most b) b x c.args.steps.now u)) kept
    (subst (λ m. IfOk c.run_in_place.result (λ x. WorksOn c.kept-kept.result m b x c.args.steps.now u)) last
    (IfOk-weaker c.run_in_place.result _ (λ x. WorksOn c.kept-kept.result c.min-last.result b x c.args.steps.now u)
    (λ x is. works_then c.kept-kept.result c.min-last.result b c.findings.book x c.args.steps.now c.findings.steps u c.findings.invariant.working is)
    c.run_in_place.ensures))
