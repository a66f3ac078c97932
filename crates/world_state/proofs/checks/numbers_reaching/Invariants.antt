use Rattle.world_state.proofs.Reaching.{Reached}
use Rattle.world_state.proofs.checks.numbers_reaching.Given as goal

abbrev pub invariant-loop-number : goal.invariant-loop-number
invariant-loop-number l = Reached l.stored l.total l.number l.numbers.items
