-- The seats of a crew, split off and joined again.
use Rattle.std.proofs.Common.{◌≡◌, ◌∙◌, refl, sym, ap, subst, arith, ℕ, zero, suc, ◌+◌, ◌-◌, ◌<◌, ◌≤◌, ◌++◌, ◌∷◌, [], List, Option, Some, None, true, get_or, get_or-set_same}
use Rattle.std.specs.Prelude.{All, IsSome, IsSomeAnd, is_some, length, replicate, slice_index_or}
use Rattle.std.specs.Option.{option_or}
use Rattle.std.proofs.lemmas.List.{get_or_append_left, length-append}
use Rattle.std.proofs.lemmas.List.Elements.{All-append, All-cons, All-weaker}
use Rattle.std.proofs.lemmas.Option.{same_Some}
use Rattle.std.proofs.Math.Seq.{get_or-append_seam}
use mathlib.Core.Logic.{dite}
use native.Mathlib.Decide.{ℕ_discrete}
use Rattle.turn_lock.specs.Seat.{LockFields, SeatFields, SpeaksForAll, first_seat, new_seat, only, own_of}
use Rattle.crew.specs.Works.{AreFrom, HasJoined, HasWorked, IsFirst, IsOther, IsThere, IsUnused, SpeaksAsMuch, worker_turns}

-- the seat that is there is that one
pub that_one : (P : SeatFields → Type 0) (o : Option SeatFields) (s : SeatFields) → IsThere o P → o ≡ Some s → P s
that_one P o s there is = subst P (same_Some there.0 s (sym there.1 ∙ is)) there.2

-- worker 1 after its turns, where there is no other seat
pub alone_joined : (m : ℕ) (s t : SeatFields) → m ≤ worker_turns → HasWorked m s t → HasJoined [] s t
alone_joined m s t few w = record {
  lock = w.lock;
  last = λ k e. w.last ∙ e;
  turns = omega (arith, w.turns, few);
  first = λ c e. w.speaks c ∙ e;
  each = λ k d within. absurd (omega (arith, within));
}

-- after one more was split off
pub first_next : (at : LockFields) (caller : ℕ) (s t : SeatFields) → IsFirst at caller s → t ≡ record s { last_caller = Some caller }
    → IsFirst at (caller + 1) t
first_next at caller s t f is = subst (IsFirst at (caller + 1)) (sym is) (record {
  lock = f.lock;
  turns = f.turns;
  last = let e : caller ≡ caller + 1 - 1 = omega arith in ap (λ (k : ℕ). Some k) e;
  first = f.first;
})

only_speaks : (k : ℕ) → k < 64 → is_some (get_or (only k) k None) ≡ true
only_speaks k h = ap is_some (get_or-set_same (replicate 64 None) k (Some 0) None h)

new_speaks : (from : SeatFields) (caller : ℕ) → 1 ≤ caller → caller ≤ 64 → is_some (own_of (new_seat from caller) caller) ≡ true
new_speaks from zero least most = absurd (omega (arith, least))
new_speaks from (suc k) least most =
    let e : suc k - 1 ≡ k = omega arith in
    ap (λ (j : ℕ). is_some (get_or (only j) k None)) e ∙ only_speaks k (omega (arith, most))

-- and that one
pub other_new : (at : LockFields) (caller : ℕ) (s t : SeatFields) → 1 ≤ caller → caller ≤ 64 → s.lock ≡ at → t ≡ new_seat s caller → IsOther at caller t
other_new at caller s t least most lock is = subst (IsOther at caller) (sym is) (record {
  lock = lock;
  turns = refl;
  caller_is = refl;
  last = refl;
  speaks = new_speaks s caller least most;
})

-- joined again
some_left : (o p : Option ℕ) → is_some o ≡ true → is_some (option_or o p) ≡ true
some_left None p e = cc
some_left (Some k) p e = refl

some_right : (o p : Option ℕ) → is_some p ≡ true → is_some (option_or o p) ≡ true
some_right None p e = e
some_right (Some k) p e = refl

left_last : (o p : Option ℕ) (last : ℕ) → o ≡ Some last → option_or o p ≡ Some last
left_last None p last e = cc
left_last (Some k) p last e = e

pub joined_more : (at : LockFields) (xs : List SeatFields) (old new s t u : SeatFields) → IsUnused at old → HasWorked worker_turns old new
    → HasJoined xs s t → u.lock ≡ t.lock → u.turns ≡ t.turns + new.turns → u.last_caller ≡ option_or t.last_caller new.last_caller
    → ((c : ℕ) → own_of u c ≡ option_or (own_of t c) (own_of new c)) → HasJoined (xs ++ old ∷ []) s u
joined_more at xs old new s t u unused w j lock turns last own = record {
  lock = lock ∙ j.lock;
  last = λ k e. last ∙ left_last t.last_caller new.last_caller k (j.last k e);
  turns = omega (arith, turns, j.turns, w.turns, unused.turns, length-append xs (old ∷ []));
  first = λ c e. ap is_some (own c) ∙ some_left (own_of t c) (own_of new c) (j.first c e);
  each = All-append (SpeaksAsMuch u) xs (old ∷ [])
      (All-weaker (SpeaksAsMuch t) (SpeaksAsMuch u) (λ x h c e. ap is_some (own c) ∙ some_left (own_of t c) (own_of new c) (h c e)) xs j.each)
      (All-cons (SpeaksAsMuch u) old [] (λ c e. ap is_some (own c) ∙ some_right (own_of t c) (own_of new c) (w.speaks c ∙ e)) (λ k d within. absurd (omega (arith, within))));
}

-- it speaks for each caller of the others
pub each_speaks : (at : LockFields) (from : ℕ) (xs : List SeatFields) (t : SeatFields) → AreFrom at from xs → All (SpeaksAsMuch t) xs
    → (c : ℕ) → from ≤ c → c < from + length xs → is_some (own_of t c) ≡ true
each_speaks at from xs t are all c least less =
    let within : c - from < length xs = omega (arith, least, less) in
    let its : from + (c - from) ≡ c = omega (arith, least) in
    subst (λ (k : ℕ). is_some (own_of t k) ≡ true) its
    (all (c - from) t within (from + (c - from)) (are (c - from) t within).speaks)

-- all are joined
pub speaks_all : (at : LockFields) (xs : List SeatFields) (s t : SeatFields) → IsFirst at (length xs + 2) s → AreFrom at 2 xs → HasJoined xs s t
    → SpeaksForAll t
speaks_all at xs s t f are j =
    let last : length xs + 2 - 1 ≡ length xs + 1 = omega arith in
    subst (λ (o : Option ℕ). IsSomeAnd o (λ k. (c : ℕ) → 1 ≤ c → c ≤ k → IsSome (own_of t c)))
    (sym (j.last (length xs + 1) (f.last ∙ ap (λ (k : ℕ). Some k) last)))
    (λ c from to. dite (ℕ_discrete c 1)
    (λ e. subst (λ (k : ℕ). is_some (own_of t k) ≡ true) (sym e) (j.first 1 f.first))
    (λ ne. each_speaks at 2 xs t are j.each c (omega (arith, from, ne)) (omega (arith, to))))

-- one seat more
pub from_more : (at : LockFields) (from : ℕ) (xs : List SeatFields) (x : SeatFields) → AreFrom at from xs → IsOther at (from + length xs) x
    → AreFrom at from (xs ++ x ∷ [])
from_more at from xs x are other k d within = dite (ℕ_discrete k (length xs))
    (λ e. subst (λ (j : ℕ). IsOther at (from + j) (get_or (xs ++ x ∷ []) j d)) (sym e)
    (subst (IsOther at (from + length xs)) (sym (get_or-append_seam xs x [] d)) other))
    (λ ne.
    let less : k < length xs = omega (arith, within, ne, length-append xs (x ∷ [])) in
    subst (IsOther at (from + k)) (sym (get_or_append_left xs (x ∷ []) d k less)) (are k d less))

-- what holds of each seat by its place holds of those before the last, and of the last
pub split_last : (P : ℕ → SeatFields → Type 0) (xs : List SeatFields) (x : SeatFields)
    → ((k : ℕ) (d : SeatFields) → k < length (xs ++ x ∷ []) → P k (slice_index_or (xs ++ x ∷ []) k d))
    → ((k : ℕ) (d : SeatFields) → k < length xs → P k (slice_index_or xs k d)) × P (length xs) x
split_last P xs x each = (
  (λ k d less.
      let within : k < length (xs ++ x ∷ []) = omega (arith, less, length-append xs (x ∷ [])) in
      subst (P k) (get_or_append_left xs (x ∷ []) d k less) (each k d within)),
  (let within : length xs < length (xs ++ x ∷ []) = omega (arith, length-append xs (x ∷ [])) in
      subst (P (length xs)) (get_or-append_seam xs x [] x) (each (length xs) x within)),
)

-- none of them took a turn
pub from_unused : (at : LockFields) (from : ℕ) (xs : List SeatFields) → AreFrom at from xs → All (IsUnused at) xs
from_unused at from xs are k d within = record { lock = (are k d within).lock; turns = (are k d within).turns }

-- the seat that a lock comes with
pub first_is : (at : LockFields) (s : SeatFields) → s ≡ first_seat at → IsFirst at 2 s
first_is at s is = subst (IsFirst at 2) (sym is) (record {
  lock = refl;
  turns = refl;
  last = refl;
  first = only_speaks 0 (omega arith);
})
