-- A quantum on any machine: who is reaped, when there is room, and where the background flips.
use Rattle.std.proofs.Common.{◌≡◌, ℕ, zero, suc, ◌+◌, ◌%◌, ◌<◌, ◌≤◌, Bool, true, false, List, [], ◌∷◌, refl, ap, subst, arith, inl, inr, ◌≢◌, length, map}
use Rattle.std.specs.Prelude.{Some, None, Option, ◌==◌, not, option_map, position, slice_index}
use Rattle.std.proofs.lemmas.Bool.{and_parts, leb-true, ltb-true}
use Rattle.std.proofs.lemmas.Bool.Decides.{eqb_tells, nat_tests}
use Rattle.tierra_model.specs.declared.parameters.Settings.{Settings}
use Rattle.tierra_model.specs.declared.events.Event.TheVariants as event
use Rattle.tierra_model.specs.Draw.{is_due, back_flip}
use Rattle.tierra_model.specs.Queue.{place_of_first_other}
use Rattle.tierra_model.specs.Quantum.{Machine, take_block, reap, make_room}
use Rattle.tierra_model.specs.Blocks.{is_in}
use Rattle.tierra_model.specs.Room.{room_for}

-- ---- blocks

pub block_in : (at size q : ℕ) → is_in (record { at = at; size = size }) q ≡ true → (at ≤ q) × (q < at + size)
block_in at size q e = let p = and_parts _ _ e in (leb-true at q p.0, ltb-true q (at + size) p.1)

-- ---- who is reaped

abbrev pub IsOther : ℕ → List ℕ → ℕ → Type 0
IsOther c ids k = (k < length ids) × (slice_index ids k ≢ c)

later_other : (c x k : ℕ) (xs : List ℕ) (o : Option ℕ) → place_of_first_other c xs ≡ o → option_map suc o ≡ Some k
    → ((j : ℕ) → place_of_first_other c xs ≡ Some j → IsOther c xs j) → IsOther c (x ∷ xs) k
later_other c x k xs None h e ih = cc
later_other c x k xs (Some j) h e ih =
    let r = ih j h in
    let sj : suc j ≡ k = cc in
    subst (λ n. IsOther c (x ∷ xs) n) sj (omega (arith, r.0), r.1)

pub place_of_first_other-is : (c : ℕ) (ids : List ℕ) (k : ℕ) → place_of_first_other c ids ≡ Some k → IsOther c ids k
place_of_first_other-is c [] k e = cc
place_of_first_other-is c (x ∷ xs) k e = elim (eqb_tells x c) [
  | inl a ↦ later_other c x k xs (place_of_first_other c xs) refl (rw (a.0) at e) (place_of_first_other-is c xs)
  | inr a ↦ (let z : Some 0 ≡ Some k = rw (a.0) at e in let k0 : 0 ≡ k = cc in
      (omega (arith, k0), subst (λ n. slice_index (x ∷ xs) n ≢ c) k0 a.1))
]

-- it stands where the first element of another number is
pub position-of_other : {X : Type 0} (f : X → ℕ) (c : ℕ) (xs : List X)
    → position (λ x. not (f x == c)) xs ≡ place_of_first_other c (map f xs)
position-of_other f c [] = refl
position-of_other f c (x ∷ xs) = grind (arith, nat_tests, position-of_other f c xs)

-- ---- room

pub room-some : {S : Type 0} (P : Machine S) (s : Settings) (size n at : ℕ) (x : S) → room_for s (P.owned x) size ≡ Some at
    → make_room P s size n x ≡ take_block P s size at x
room-some P s size zero at x e =
    ap (λ (r : Option ℕ). elim r [ Some a ↦ take_block P s size a x | None ↦ P.apply (P.ask_reaper x) event.Err ]) e
room-some P s size (suc n) at x e =
    ap (λ (r : Option ℕ). elim r [ Some a ↦ take_block P s size a x | None ↦ make_room P s size n (reap P s x) ]) e

pub room-none_zero : {S : Type 0} (P : Machine S) (s : Settings) (size : ℕ) (x : S) → room_for s (P.owned x) size ≡ None
    → make_room P s size zero x ≡ P.apply (P.ask_reaper x) event.Err
room-none_zero P s size x e =
    ap (λ (r : Option ℕ). elim r [ Some a ↦ take_block P s size a x | None ↦ P.apply (P.ask_reaper x) event.Err ]) e

pub room-none_suc : {S : Type 0} (P : Machine S) (s : Settings) (size n : ℕ) (x : S) → room_for s (P.owned x) size ≡ None
    → make_room P s size (suc n) x ≡ make_room P s size n (reap P s x)
room-none_suc P s size n x e =
    ap (λ (r : Option ℕ). elim r [ Some a ↦ take_block P s size a x | None ↦ make_room P s size n (reap P s x) ]) e

-- ---- the background flip

abbrev pub FlipOf : ℕ → Option (ℕ × ℕ) → Type 0
FlipOf n None = Unit {0}
FlipOf n (Some c) = (c.0 < n) × (c.1 < 5)

pub back_flip_of : (rate : ℕ) (draw : ℕ → ℕ) (n : ℕ) → 0 < n → FlipOf n (back_flip rate draw n)
back_flip_of rate draw n h = go (is_due rate draw 0)
  where
    go : (b : Bool) → FlipOf n (let o : Option (ℕ × ℕ) = elim b [ true ↦ Some (draw 1 % n, draw 2 % 5) | false ↦ None ] in o)
    go true = (omega arith, omega arith)
    go false = tt
