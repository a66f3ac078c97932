use Rattle.std.proofs.Common.{◌≡◌, ℕ, ◌+◌}
use Rattle.std.specs.Prelude.{IsSome}
use Rattle.turn_lock.specs.Seat.{own_of}
use Rattle.crew_tests.proofs.turns.work.Given as goal

abbrev pub invariant-loop : goal.invariant-loop
invariant-loop g l = (l.seat.lock ≡ l.initial.seat.lock) × (l.seat.turns ≡ l.initial.seat.turns + l.counter) × (l.seat.last_caller ≡ l.initial.seat.last_caller)
    × ((c : ℕ) → IsSome (own_of l.initial.seat c) → IsSome (own_of l.seat c))
