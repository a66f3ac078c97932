use Rattle.std.proofs.Common.{◌-◌, ◌≤◌}
use Rattle.soup_hold.specs.Steps.{HasHeld}
use Rattle.soup_hold.specs.Text.{held_quanta}
use Rattle.soup_hold.proofs.holding.hold_each.Given as goal

abbrev pub invariant-loop-number : goal.invariant-loop-number
invariant-loop-number g l = record {
  begun : l.from ≤ l.number;
  so_far : HasHeld l.fn.shelf.owner l.fn.world.world (held_quanta l.every l.fn.world.world.quanta l.quanta)
      (g.D.Desk.state l.fn.desk) (g.D.Desk.state l.desk) (l.number - l.from) l.shelf l.world.world;
}
