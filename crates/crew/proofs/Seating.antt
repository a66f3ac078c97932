-- Seats over several turns.
use Rattle.std.proofs.Common.{◌≡◌, ◌≢◌, ◌∙◌, refl, sym, ap, subst, arith, ℕ, ◌+◌, ◌≤◌, Some}
use Rattle.std.specs.Prelude.{IsSomeAnd, is_some}
use mathlib.Core.Logic.{dite}
use native.Mathlib.Decide.{ℕ_discrete}
use Rattle.turn_lock.specs.declared.view.Summary.{Summary}
use Rattle.turn_lock.specs.Seat.{SeatFields, TurnFields, own_of}
use Rattle.turn_lock.specs.Summary.{Commits}
use Rattle.turn_lock.proofs.OwnCounts.{value_where}
use Rattle.crew.specs.Works.{HasWorked}

pub worked_none : (s : SeatFields) → HasWorked 0 s s
worked_none s = record {
  lock = refl;
  caller = refl;
  speaks = λ c. refl;
  last = refl;
  seen = omega arith;
  turns = omega arith;
}

pub worked_then : (m n k : ℕ) (s t u : SeatFields) → m + n ≡ k → HasWorked m s t → HasWorked n t u → HasWorked k s u
worked_then m n k s t u sum first second = record {
  lock = second.lock ∙ first.lock;
  caller = second.caller ∙ first.caller;
  speaks = λ c. second.speaks c ∙ first.speaks c;
  last = second.last ∙ first.last;
  seen = omega (arith, first.seen, second.seen);
  turns = omega (arith, first.turns, second.turns, sum);
}

pub worked_more : (m k : ℕ) (s t : SeatFields) → m ≤ k → HasWorked m s t → HasWorked k s t
worked_more m k s t h w = record {
  lock = w.lock;
  caller = w.caller;
  speaks = w.speaks;
  last = w.last;
  seen = w.seen;
  turns = omega (arith, w.turns);
}

-- ---- one turn

-- what was done to the value may be given back
pub may_give : (seat : SeatFields) (turn : TurnFields) (caller : ℕ) (old new : Summary) → turn.seat ≡ seat → caller ≡ seat.caller → turn.taken ≡ old
    → Commits caller old new → Commits turn.seat.caller turn.taken new
may_give seat turn caller old new same is taken commits =
    let its : caller ≡ turn.seat.caller = is ∙ ap (λ (s : SeatFields). s.caller) (sym same) in
    subst (λ (c : ℕ). Commits c turn.taken new) its (subst (λ (x : Summary). Commits caller x new) (sym taken) commits)

still_speaks : (s t : SeatFields) (c d growth : ℕ) → IsSomeAnd (own_of s c) (λ n. own_of t c ≡ Some (n + growth))
    → ((k : ℕ) → k ≢ c → own_of t k ≡ own_of s k) → is_some (own_of t d) ≡ is_some (own_of s d)
still_speaks s t c d growth own others = dite (ℕ_discrete d c)
    (λ same.
    let n = value_where (own_of s c) (λ k. own_of t c ≡ Some (k + growth)) own in
    ap (λ (k : ℕ). is_some (own_of t k)) same ∙ ap is_some n.2 ∙ sym (ap is_some n.1) ∙ ap (λ (k : ℕ). is_some (own_of s k)) (sym same))
    (λ other. ap is_some (others d other))

pub turn_worked : (seat new : SeatFields) (turn : TurnFields) (old now growth : ℕ) → turn.seat ≡ seat → seat.seen ≤ old → old ≤ now
    → new.lock ≡ turn.seat.lock → new.caller ≡ turn.seat.caller → new.turns ≡ turn.seat.turns + 1 → new.seen ≡ now
    → new.last_caller ≡ turn.seat.last_caller → IsSomeAnd (own_of turn.seat turn.seat.caller) (λ n. own_of new turn.seat.caller ≡ Some (n + growth))
    → ((c : ℕ) → c ≢ turn.seat.caller → own_of new c ≡ own_of turn.seat c) → HasWorked 1 seat new
turn_worked seat new turn old now growth same seen more lock caller turns seen_is last own others = record {
  lock = lock ∙ ap (λ (s : SeatFields). s.lock) same;
  caller = caller ∙ ap (λ (s : SeatFields). s.caller) same;
  speaks = λ c. still_speaks turn.seat new turn.seat.caller c growth own others ∙ ap (λ (s : SeatFields). is_some (own_of s c)) same;
  last = last ∙ ap (λ (s : SeatFields). s.last_caller) same;
  seen = omega (arith, seen, more, seen_is);
  turns = omega (arith, turns, ap (λ (s : SeatFields). s.turns) same);
}
