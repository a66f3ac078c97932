use Rattle.std.proofs.Common.{rules, ◌∙◌, sym, ap, subst, List}
use Rattle.soup_watch.specs.declared.sight.Sight.{Sight}
use Rattle.soup_watch.specs.Seeing.{NeverFalls, last_of}
use Rattle.soup_watch.proofs.Orders.{last-added, never_falls_added}
use Rattle.soup_watch.proofs.sights.Sights.add.Goals as goal

pub invariant_of-self : goal.invariant_of-self
invariant_of-self c =
    subst NeverFalls (sym c.push_reserved.ensures.items) (never_falls_added c.self.inside.items.items c.args.sight c.self.invariant (search rules))

pub returns-clause-last : goal.returns-clause-last
returns-clause-last c =
    ap (λ (sights : List Sight). last_of sights) c.push_reserved.ensures.items ∙ last-added c.self.inside.items.items c.args.sight

pub returns-clause-order : goal.returns-clause-order
returns-clause-order c = invariant_of-self c
