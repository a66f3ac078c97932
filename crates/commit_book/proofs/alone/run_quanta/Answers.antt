use Rattle.std.proofs.Common.{◌≡◌, ℕ, ◌+◌, ◌<◌, [], ◌∷◌, ◌++◌, sym, ◌∙◌, ap, subst, arith, inl, inr, length}
use Rattle.std.specs.Prelude.{None, replicate}
use Rattle.tierra_model.specs.declared.history.How.TheVariants as how
use Rattle.tierra_model.specs.World.{World}
use Rattle.std.proofs.lemmas.List.{length_push}
use Rattle.commit_book.specs.Alone.{Pauses, WorksOn}
use Rattle.commit_book.specs.Book.{BookFields}
use Rattle.commit_book.specs.Kept.{IsBook}
use Rattle.commit_book.proofs.InPlace.{runs-first, sound-world, state-is_book, state-next, state-ticks, state_of}
use Rattle.commit_book.proofs.Keeping.{book-sound}
use Rattle.commit_book.proofs.Working.{goes_on, not_at_first, pauses_here}
use Rattle.commit_book.proofs.alone.run_quanta.Goals as goal

pub quanta-init : goal.quanta-init
quanta-init g c = record {
  committed = c.len-committed.ensures;
  works = λ b k. runs-first c.args.kept c.args.last b c.args.run.now c.args.history.now c.len-committed.result c.args.steps.now k c.len-committed.ensures;
}

pub first-requires : goal.first-requires
first-requires g c =
    let b : BookFields = c.requires.0 in
    let r = c.quanta.invariant.works b c.requires.1 in
    sound-world (state_of b c.quanta.committed c.quanta.history) c.quanta.run c.requires.1.setup r.book

pub next_counted-requires-clause-sound : goal.next_counted-requires-clause-sound
next_counted-requires-clause-sound g c =
    let b : BookFields = c.requires.0 in
    let r = c.quanta.invariant.works b c.requires.1 in
    sound-world (state_of b c.quanta.committed c.quanta.history) c.quanta.run c.requires.1.setup r.book

pub next_counted-requires-clause-more : goal.next_counted-requires-clause-more
next_counted-requires-clause-more g c =
    let b : BookFields = c.requires.0 in
    let r = c.quanta.invariant.works b c.requires.1 in
    let more : c.quanta.committed < b.quanta = omega (arith, c.quanta-test.true, c.requires.1.within) in
    (book-sound (state_of b c.quanta.committed c.quanta.history) c.quanta.run c.requires.1.setup r.book more).few

pub quanta-preserved : goal.quanta-preserved
quanta-preserved g c =
    let l = c.quanta in
    let long : l.committed + 1 ≡ length c.push.new.self =
    sym (ap length c.in_ok-push.ensures.ok ∙ length_push l.history _ ∙ ap (λ (n : ℕ). n + 1) (sym l.invariant.committed)) in
    record {
      committed = long;
      works = λ b can. (
          let r = l.invariant.works b can in
          let x : BookFields = state_of b l.committed l.history in
          let y : BookFields = state_of b (l.committed + 1) c.push.new.self in
          let k = r.book in
          let more : l.committed < b.quanta = omega (arith, c.quanta-test.true, can.within) in
          let on : Pauses c.args.kept c.args.last x → ⊥ = λ p. elim p [
            | inl all ↦ omega (arith, all, c.quanta-test.true)
            | inr past ↦ omega (arith, past, c.if-kept.true, c.kept.ensures, ap (λ (w : World). length w.saved) k.world)
          ] in
          let none : b.stash ≡ replicate b.window None = elim can.none [
            | inl p ↦ absurd (not_at_first c.args.kept c.args.last b x c.args.steps.now l.steps r.working on p)
            | inr n ↦ n
          ] in
          let next = state-next b l.committed l.history l.run none k c.push.new.self
          (c.in_ok-push.ensures.ok ∙ (λ j. l.history ++ record { quantum = length l.history + 1; creature = c.first.ensures j; by = 1; how = how.Missing } ∷ [])) in
          let ticks = c.in_ok-next_counted.ensures.ticks ∙ ap (λ n. l.steps + n) (state-ticks b l.committed l.history l.run none k) in
          record {
            working = goes_on c.args.kept c.args.last b x y c.args.steps.now l.steps c.next_counted.new.steps r.working on next ticks;
            book = state-is_book b l.committed l.history l.run none k y c.next_counted.new.self more next c.in_ok-next_counted.ensures.world;
          });
    }

pub returns-else-kept-clause-works : goal.returns-else-kept-clause-works
returns-else-kept-clause-works g c = λ b can.
    let l = c.quanta in
    let r = l.invariant.works b can in
    let pauses : Pauses c.args.kept c.args.last (state_of b l.committed l.history) =
    inr (omega (arith, c.if-kept.false, c.kept.ensures, ap (λ (u : World). length u.saved) r.book.world)) in
    subst (λ (n : ℕ). WorksOn c.args.kept c.args.last b (state_of b n l.history) c.args.steps.now l.steps) l.invariant.committed
    (pauses_here c.args.kept c.args.last b (state_of b l.committed l.history) c.args.steps.now l.steps r.working pauses)

pub returns-after-quanta-clause-works : goal.returns-after-quanta-clause-works
returns-after-quanta-clause-works g c = λ b can.
    let l = c.quanta in
    let r = l.invariant.works b can in
    let pauses : Pauses c.args.kept c.args.last (state_of b l.committed l.history) = inl (omega (arith, c.quanta-test.false)) in
    subst (λ (n : ℕ). WorksOn c.args.kept c.args.last b (state_of b n l.history) c.args.steps.now l.steps) l.invariant.committed
    (pauses_here c.args.kept c.args.last b (state_of b l.committed l.history) c.args.steps.now l.steps r.working pauses)

pub returns-else-kept-clause-book : goal.returns-else-kept-clause-book
returns-else-kept-clause-book g c = λ b can.
    let l = c.quanta in
    subst (λ (n : ℕ). IsBook (state_of b n l.history) l.run) l.invariant.committed (l.invariant.works b can).book

pub returns-after-quanta-clause-book : goal.returns-after-quanta-clause-book
returns-after-quanta-clause-book g c = λ b can.
    let l = c.quanta in
    subst (λ (n : ℕ). IsBook (state_of b n l.history) l.run) l.invariant.committed (l.invariant.works b can).book
