-- The seats of the workers and of their observer, split off, used and joined again.
use Rattle.std.proofs.Common.{◌≡◌, ◌∙◌, sym, ap, subst, arith, ℕ, ◌+◌, ◌-◌, ◌≤◌, List, Option, Some, None, true}
use Rattle.std.specs.Prelude.{IsSome, IsSomeAnd, is_some, length}
use Rattle.std.specs.Option.{option_or}
use mathlib.Core.Logic.{dite}
use native.Mathlib.Decide.{ℕ_discrete}
use Rattle.turn_lock.specs.Seat.{LockFields, SeatFields, SpeaksForAll, own_of}
use Rattle.crew.specs.Works.{AreFrom, HasJoined, HasWorked, IsFirst, IsOther}
use Rattle.crew.proofs.Speaking.{each_speaks}
use Rattle.soup_watch.specs.Seats.{HasLooked, IsLead, lead_turns, observer_turns}
use Rattle.tierra_model.specs.declared.limits.TheConstants.{MOST_WORKERS}

pub observer_done : (at : LockFields) (observer : ℕ) (s t : SeatFields) → IsOther at observer s → HasWorked observer_turns s t → HasLooked at observer t
observer_done at observer s t o w = record {
  lock = w.lock ∙ o.lock;
  last = w.last ∙ o.last;
  turns = omega (arith, w.turns, o.turns);
  speaks = w.speaks observer ∙ o.speaks;
}

-- worker 1 and the callers before the observer, who is the last
pub lead_done : (at : LockFields) (xs : List SeatFields) (s t : SeatFields) → IsFirst at (length xs + 3) s → length xs + 2 ≤ MOST_WORKERS → AreFrom at 2 xs → HasJoined xs s t
    → IsLead at (length xs + 2) lead_turns t
lead_done at xs s t f few are j =
    let last : length xs + 3 - 1 ≡ length xs + 2 = omega arith in
    record {
      lock = j.lock ∙ f.lock;
      last = j.last (length xs + 2) (f.last ∙ ap (λ (k : ℕ). Some k) last);
      turns = omega (arith, j.turns, f.turns, few);
      speaks = λ c least less. dite (ℕ_discrete c 1)
          (λ e. subst (λ (k : ℕ). is_some (own_of t k) ≡ true) (sym e) (j.first 1 f.first))
          (λ ne. each_speaks at 2 xs t are j.each c (omega (arith, least, ne)) (omega (arith, less)));
    }

some_left : (o p : Option ℕ) → is_some o ≡ true → is_some (option_or o p) ≡ true
some_left None p e = cc
some_left (Some k) p e = e

some_right : (o p : Option ℕ) → is_some p ≡ true → is_some (option_or o p) ≡ true
some_right None p e = e
some_right (Some k) p e = cc

right_last : (o p : Option ℕ) → o ≡ None → option_or o p ≡ p
right_last None p e = cc
right_last (Some k) p e = cc

-- all are joined
pub speaks_all : (at : LockFields) (observer most : ℕ) (s t u : SeatFields) → HasLooked at observer s → IsLead at observer most t
    → u.last_caller ≡ option_or s.last_caller t.last_caller → ((c : ℕ) → own_of u c ≡ option_or (own_of s c) (own_of t c)) → SpeaksForAll u
speaks_all at observer most s t u o l last own =
    subst (λ (o : Option ℕ). IsSomeAnd o (λ k. (c : ℕ) → 1 ≤ c → c ≤ k → IsSome (own_of u c)))
    (sym (last ∙ right_last s.last_caller t.last_caller o.last ∙ l.last))
    (λ c from to. dite (ℕ_discrete c observer)
    (λ e. ap is_some (own c) ∙ some_left (own_of s c) (own_of t c) (subst (λ (k : ℕ). is_some (own_of s k) ≡ true) (sym e) o.speaks))
    (λ ne. ap is_some (own c) ∙ some_right (own_of s c) (own_of t c) (l.speaks c from (omega (arith, to, ne)))))

-- worker 1's seat after one turn more
pub lead_worked : (at : LockFields) (observer most : ℕ) (s t : SeatFields) → IsLead at observer most s → HasWorked 1 s t → IsLead at observer (most + 1) t
lead_worked at observer most s t l w = record {
  lock = w.lock ∙ l.lock;
  last = w.last ∙ l.last;
  turns = omega (arith, w.turns, l.turns);
  speaks = λ c least less. w.speaks c ∙ l.speaks c least less;
}
