use Rattle.std.proofs.Common.{sym, subst}
use Rattle.schedule_drill.proofs.drill.Drill.offer.Goals as goal
use Rattle.schedule_drill.proofs.Hands.{GoesOn, at_later_book, offer-goes_on, short-goes_on}

pub invariant_of-self-in-Committed : goal.invariant_of-self-in-Committed
invariant_of-self-in-Committed g c =
    at_later_book (record { book = c.self.inside.book; hands = c.self.inside.hands.items; answered = c.self.inside.answered }) c.offer.new.self
    c.self.inside.answered c.self.invariant
    (subst (GoesOn c.self.inside.book) (sym c.in-Committed.ensures.after.0)
    (offer-goes_on c.args.hand c.in-Committed.field-0 c.args.finding c.self.inside.book))

pub invariant_of-self-in-OutOfMemory : goal.invariant_of-self-in-OutOfMemory
invariant_of-self-in-OutOfMemory g c =
    at_later_book (record { book = c.self.inside.book; hands = c.self.inside.hands.items; answered = c.self.inside.answered }) c.offer.new.self
    c.self.inside.answered c.self.invariant
    (short-goes_on c.args.hand c.args.steps.now c.offer.new.steps c.args.finding c.self.inside.book c.offer.new.self c.in-OutOfMemory.ensures.after)
