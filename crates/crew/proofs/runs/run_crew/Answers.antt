use Rattle.std.proofs.Common.{rules, refl, ◌∙◌, sym, ap, arith, ◌≤◌}
use Rattle.turn_lock.specs.declared.view.Summary.{Summary}
use Rattle.crew.proofs.Banks.{earlier-within}
use Rattle.crew.proofs.HasGroups.{has_at_first}
use Rattle.crew.proofs.Speaking.{speaks_all}
use Rattle.crew.proofs.runs.run_crew.Goals as goal

pub work_together-worked-requires-clause-first : goal.work_together-worked-requires-clause-first
work_together-worked-requires-clause-first g c κs within =
    let first = c.add_seats-all.ensures.first in
    (c.add_seats-all.new.first, refl, record { lock = first.lock; turns = first.turns })

pub close-book-requires-clause-all : goal.close-book-requires-clause-all
close-book-requires-clause-all g c =
    let split = c.add_seats-all.ensures in
    speaks_all c.in-Ok.lock c.add_seats-all.new.seats.items c.add_seats-all.new.first c.work_together-worked.result.seat split.first split.others
    c.work_together-worked.ensures.seat

pub work_together-worked-requires-clause-ready : goal.work_together-worked-requires-clause-ready
work_together-worked-requires-clause-ready g c κs within =
    let book = c.args.book in
    let hand = c.args.hand.now in
    let setup = c.requires.setup in
    let quanta = c.requires.quanta in
    let most : book.committed ≤ book.quanta = omega (arith, c.committed-committed.ensures.value, c.committed-committed.ensures.most) in
    let all = earlier-within book.setup book.committed book.quanta (g.H.Hand.done hand) most c.requires.done in (
      record {
        unhalted = c.requires.unhalted;
        run_is = ap (λ (s : Summary). s.setup) c.in-Ok.ensures.opening ∙ (λ i. (sym setup i, sym quanta i));
        within = rw (setup, quanta) all;
        can = c.requires.can;
      },
      has_at_first (g.H.Hand.setup hand) (g.H.Hand.quanta hand) (g.H.Hand.done hand),
    )

pub returns-in-Go-clause-later : goal.returns-in-Go-clause-later
returns-in-Go-clause-later g c = g.met.H.Hand.goes_on _ _ _ (search rules) c.run_rest.ensures.later
