use Rattle.std.proofs.Common.{◌≡◌, ◌+◌, None, length}
use Rattle.soup_top.specs.Handing.{GoesOn}
use Rattle.soup_top.proofs.hand.keep_next.Given as goal

abbrev pub invariant-loop-group : goal.invariant-loop-group
invariant-loop-group g l = record {
  can : (goal.iterator-loop-group g).can_next l.group-iterator;
  finite : (goal.iterator-loop-group g).is_finite l.group-iterator;
  done : l.keeper.done ≡ l.fn.keeper.done + length l.yielded;
  unstopped : l.keeper.stopped ≡ None;
  way : GoesOn g.D.Desk.state l.start l.desk l.keeper;
}
