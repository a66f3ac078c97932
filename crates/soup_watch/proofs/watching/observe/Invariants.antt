use Rattle.std.proofs.Common.{◌+◌, ◌*◌, ◌≤◌}
use Rattle.crew.specs.Works.{HasWorked}
use Rattle.soup_watch.specs.declared.waiting.TheConstants.{MOST_TURNS}
use Rattle.soup_watch.specs.Seats.{HasSeen}
use Rattle.soup_watch.proofs.watching.observe.Given as goal

abbrev pub invariant-loop-number : goal.invariant-loop-number
invariant-loop-number g l = HasWorked ((MOST_TURNS + 1) * l.number) l.fn.seat l.seat
    × HasSeen l.fn.lock.opening.setup.0 l.number l.seat.seen l.sights.sights
    × (l.fn.looks + 1 ≤ l.sights.spare + l.number)
