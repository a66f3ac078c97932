use Rattle.std.proofs.Common.{◌-◌, sym, subst}
use Rattle.schedule_drill.proofs.drill.Drill.offer_held.Goals as goal
use Rattle.schedule_drill.specs.AtBook.{FitsBook}
use Rattle.schedule_drill.proofs.Hands.{at_with_held}

pub invariant_of-self : goal.invariant_of-self
invariant_of-self g c =
    at_with_held (record { book = c.self.inside.book; hands = c.self.inside.hands.items; answered = c.self.inside.answered }) (c.args.hand - 1)
    c.take.new.self c.self.inside.answered c.self.invariant (subst (FitsBook c.self.inside.book) (sym c.take.ensures.after) tt)
