use Rattle.std.proofs.Common.{◌≡◌, ◌-◌, ◌≤◌}
use Rattle.crew.specs.Hand.{IsUnhalted}
use Rattle.crew.proofs.alone.run_alone.Given as goal

abbrev pub invariant-savings : goal.invariant-savings
invariant-savings g l = record {
  setup : l.book.setup ≡ l.fn.book.setup;
  quanta : l.book.quanta ≡ l.fn.book.quanta;
  few : l.book.committed ≤ l.book.quanta;
  ready : IsUnhalted (l.book.setup, l.book.quanta) (g.H.Hand.setup l.hand) (g.H.Hand.quanta l.hand) (g.H.Hand.done l.hand) (g.H.Hand.halts l.hand)
      (g.H.Hand.can_put l.hand);
  hand_setup : g.H.Hand.setup l.hand ≡ g.H.Hand.setup l.fn.hand;
  hand_quanta : g.H.Hand.quanta l.hand ≡ g.H.Hand.quanta l.fn.hand;
  later : g.H.Hand.goes_to l.fn.hand l.hand;
}

abbrev pub decreases-savings : goal.decreases-savings
decreases-savings g l = l.book.quanta - l.book.committed
