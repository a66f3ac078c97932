-- Seats that speak for the callers that they, or seats that were joined, spoke for.
use Rattle.std.proofs.Common.{◌≡◌, ◌≢◌, ℕ, ◌+◌, ◌≤◌, sym, ap, ◌∙◌, subst, arith, Option, Some}
use Rattle.std.specs.Prelude.{IsSome, IsSomeAnd, is_some}
use Rattle.std.specs.Option.{option_or}
use mathlib.Core.Logic.{dite}
use native.Mathlib.Decide.{ℕ_discrete}
use Rattle.turn_lock.specs.Seat.{SeatFields, own_of, SpeaksForAll}
use Rattle.turn_lock.proofs.OwnCounts.{value_of, value_where, or_left, or_right}

-- after a turn
pub still_speaks : (s t : SeatFields) (c d growth : ℕ) → IsSomeAnd (own_of s c) (λ n. own_of t c ≡ Some (n + growth))
    → ((k : ℕ) → k ≢ c → own_of t k ≡ own_of s k) → IsSome (own_of s d) → IsSome (own_of t d)
still_speaks s t c d growth own others speaks = dite (ℕ_discrete d c)
    (λ same. let n = value_where (own_of s c) (λ k. own_of t c ≡ Some (k + growth)) own in ap (λ (k : ℕ). is_some (own_of t k)) same ∙ ap is_some n.2)
    (λ other. ap is_some (others d other) ∙ speaks)

-- of two seats, the one that speaks for caller 1 has given out one number more, for which the other speaks
pub both_speak : (s t u : SeatFields) → s.last_caller ≡ Some 2 → u.last_caller ≡ option_or s.last_caller t.last_caller
    → ((c : ℕ) → own_of u c ≡ option_or (own_of s c) (own_of t c)) → IsSome (own_of s 1) → IsSome (own_of t 2) → SpeaksForAll u
both_speak s t u last joined own one two =
    let last_is : u.last_caller ≡ Some 2 = joined ∙ or_left s.last_caller t.last_caller 2 last in
    let first = value_of (own_of s 1) one in
    let second = value_of (own_of t 2) two in
    subst (λ (z : Option ℕ). IsSomeAnd z (λ k. (c : ℕ) → 1 ≤ c → c ≤ k → IsSome (own_of u c))) (sym last_is)
    (λ c least most. dite (ℕ_discrete c 1)
    (λ e. ap (λ (k : ℕ). is_some (own_of u k)) e ∙ (ap is_some (own 1) ∙ ap is_some (or_left (own_of s 1) (own_of t 1) first.0 first.1)))
    (λ ne. let e : c ≡ 2 =
    omega arith in ap (λ (k : ℕ). is_some (own_of u k)) e ∙ (ap is_some (own 2) ∙ ap is_some (or_right (own_of s 2) (own_of t 2) second.0 second.1).1)))
