use Rattle.std.proofs.Common.{◌≤◌}
use Rattle.crew.specs.Works.{HasWorked}
use Rattle.soup_watch.proofs.waiting.wait_until.Given as goal

abbrev pub invariant-loop : goal.invariant-loop
invariant-loop g l = HasWorked l.counter l.fn.seat l.seat × (l.idle ≤ l.counter)
