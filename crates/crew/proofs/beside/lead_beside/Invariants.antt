use Rattle.crew.specs.declared.hand.Next.TheVariants as next
use Rattle.crew.specs.Hand.{WasLed}
use Rattle.crew.proofs.beside.lead_beside.Given as goal

abbrev pub invariant-loop : goal.invariant-loop
invariant-loop g l = WasLed next.Go (g.H.Hand.setup l.fn.hand) (g.H.Hand.setup l.hand) (g.H.Hand.quanta l.fn.hand)
    (g.H.Hand.quanta l.hand) (g.H.Hand.done l.hand) (g.H.Hand.halts l.hand) (g.H.Hand.can_put l.hand)
    (g.H.Hand.goes_to l.fn.hand l.hand)
