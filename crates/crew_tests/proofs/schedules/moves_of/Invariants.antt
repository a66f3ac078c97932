use Rattle.std.proofs.Common.{All}
use Rattle.schedule_drill.specs.Moves.{IsOfHand}
use Rattle.crew_tests.proofs.schedules.moves_of.Given as goal

abbrev pub invariant-loop-word : goal.invariant-loop-word
invariant-loop-word l = All IsOfHand l.items.items
