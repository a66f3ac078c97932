use Rattle.std.proofs.Common.{◌≡◌, ap, subst, arith, length}
use Rattle.commit_book.specs.Book.{BookFields}
use Rattle.commit_book.proofs.InPlace.{none_kept}
use Rattle.commit_book.proofs.book.Book.keeps_findings.Goals as goal

pub returns : goal.returns
returns c = λ none.
    let b : BookFields = c.args.self.now in
    let long : length b.stash ≡ b.window = subst (λ (x : BookFields). length x.stash ≡ x.window) c.self.view_is c.self.invariant.book.window in
    let window : c.self.inside.window ≡ b.window = ap (λ (x : BookFields). x.window) c.self.view_is in
    none_kept b.stash b.window long (λ i less. c.loop-place.invariant i (omega (arith, less, window, c.loop-place-test.false, c.loop-place.auto.place-end)))
