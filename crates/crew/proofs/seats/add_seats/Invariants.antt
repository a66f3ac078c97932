use Rattle.std.proofs.Common.{◌≡◌, ◌+◌, ◌≤◌}
use Rattle.std.specs.Prelude.{length, vec_capacity}
use Rattle.crew.specs.Works.{AreFrom, IsFirst}
use Rattle.crew.proofs.seats.add_seats.Given as goal

abbrev pub invariant-loop-caller : goal.invariant-loop-caller
invariant-loop-caller l = record {
  others : AreFrom l.fn.lock 2 l.seats.items;
  first : IsFirst l.fn.lock l.caller l.first;
  count : length l.seats.items + 2 ≡ l.caller;
  room : l.fn.last ≤ vec_capacity l.seats + 1;
}
