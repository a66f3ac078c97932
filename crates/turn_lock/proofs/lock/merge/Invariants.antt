use Rattle.turn_lock.proofs.Merging.{MergedBelow}
use Rattle.turn_lock.proofs.lock.merge.Given as goal

abbrev pub invariant-loop-i : goal.invariant-loop-i
invariant-loop-i l = MergedBelow l.initial.own l.other l.own l.i
