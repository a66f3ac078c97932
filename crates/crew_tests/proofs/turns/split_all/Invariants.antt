use Rattle.std.proofs.Common.{◌≡◌, ◌-◌, Some}
use Rattle.std.specs.Prelude.{All}
use Rattle.crew_tests.proofs.turns.split_all.Given as goal

abbrev pub invariant-loop-caller : goal.invariant-loop-caller
invariant-loop-caller l = (l.first ≡ record l.initial.first { last_caller = Some (l.caller - 1) }) × All (λ s. (s.lock ≡ l.lock) × (s.turns ≡ 0)) l.seats.items
