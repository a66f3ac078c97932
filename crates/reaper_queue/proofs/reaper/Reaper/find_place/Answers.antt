use Rattle.std.proofs.Common.{sym, ap, subst}
use Rattle.reaper_queue.specs.Reaper.{ReaperFields}
use Rattle.reaper_queue.specs.Standing.{StandsAt}
use Rattle.reaper_queue.proofs.Found.{found, found-here}
use Rattle.reaper_queue.proofs.reaper.Reaper.find_place.Goals as goal

pub unreachable-requires : goal.unreachable-requires
unreachable-requires c =
    found c.self.inside.entries.items c.args.id (rw (ap (λ (q : ReaperFields). q.entries) c.self.view_is) c.requires) (sym c.in_default.ensures)

pub returns-clause-here : goal.returns-clause-here
returns-clause-here c =
    subst (λ (q : ReaperFields). StandsAt q.entries c.args.id c.in-Some.place) c.self.view_is
    (found-here c.self.inside.entries.items c.args.id c.in-Some.place c.self.invariant.1 (sym c.in-Some.ensures))
