-- How many blocks have a cell, as records and creatures come and go.
use Rattle.std.proofs.Common.{◌≡◌, ℕ, ◌+◌, ◌<◌, ◌≤◌, Bool, true, false, List, [], ◌∷◌, ◌++◌, refl, sym, ◌∙◌, ap, arith, inl, inr}
use Rattle.std.specs.Prelude.{filter, not, ◌==◌, ◌||◌, nat_lt}
use Rattle.std.proofs.lemmas.Bool.Decides.{nat_tests, eqb_tells}
use Rattle.tierra_model.specs.declared.creatures.Creature.{Creature}
use Rattle.tierra_model.specs.Counting.{times_in, sum_of, one_if}
use Rattle.tierra_model.specs.Blocks.{is_in, is_in_daughter}
use Rattle.tierra_model.specs.Living.{one_of, with_record, without, ids_of}
use Rattle.tierra_model.specs.Room.{is_owned}
use Rattle.tierra_model.specs.Sound.{owners}
use Rattle.tierra_model.proofs.Living.{is_here}

or_more : (a b c : Bool) (n : ℕ) → c ≡ nat_lt 0 n → (a || b || c) ≡ nat_lt 0 (one_if a + one_if b + n)
or_more true true c n e = grind (arith, nat_tests)
or_more true false c n e = grind (arith, nat_tests)
or_more false true c n e = grind (arith, nat_tests)
or_more false false c n e = grind (arith, nat_tests)

pub is_owned-owners : (living : List Creature) (p : ℕ) → is_owned living p ≡ nat_lt 0 (owners living p)
is_owned-owners [] p = refl
is_owned-owners (x ∷ xs) p =
    or_more (is_in x.own p) (is_in_daughter x.daughter p) (is_owned xs p) (owners xs p) (is_owned-owners xs p)

-- nobody else has the number
pub with_record-none : (c : Creature) (living : List Creature) → times_in (ids_of living) c.id ≡ 0 → with_record c living ≡ living
with_record-none c [] h = refl
with_record-none c (x ∷ xs) h = grind (arith, nat_tests, with_record-none c xs)

pub without-none : (living : List Creature) (id : ℕ) → times_in (ids_of living) id ≡ 0 → without id living ≡ living
without-none [] id h = refl
without-none (x ∷ xs) id h = grind (arith, nat_tests, without-none xs id)

pub sum_of-with : (f : Creature → ℕ) (c : Creature) (living : List Creature)
    → is_here living c.id ≡ true → times_in (ids_of living) c.id ≤ 1
    → sum_of f (with_record c living) + f (one_of living c.id) ≡ sum_of f living + f c
sum_of-with f c [] h o = cc
sum_of-with f c (x ∷ xs) h o = grind (arith, nat_tests, sum_of-with f c xs, with_record-none c xs)

pub sum_of-without : (f : Creature → ℕ) (living : List Creature) (id : ℕ)
    → is_here living id ≡ true → times_in (ids_of living) id ≤ 1
    → sum_of f (without id living) + f (one_of living id) ≡ sum_of f living
sum_of-without f [] id h o = cc
sum_of-without f (x ∷ xs) id h o = grind (arith, nat_tests, sum_of-without f xs id, without-none xs id)

pub sum_of-append : {X : Type 0} (f : X → ℕ) (xs ys : List X) → sum_of f (xs ++ ys) ≡ sum_of f xs + sum_of f ys
sum_of-append f [] ys = omega arith
sum_of-append f (x ∷ xs) ys = omega (arith, sum_of-append f xs ys)

pub ids_of-with : (c : Creature) (living : List Creature) → ids_of (with_record c living) ≡ ids_of living
ids_of-with c [] = refl
ids_of-with c (x ∷ xs) = grind (arith, nat_tests, ids_of-with c xs)

pub ids_of-without : (id : ℕ) (living : List Creature) → ids_of (without id living) ≡ filter (λ x. not (x == id)) (ids_of living)
ids_of-without id [] = refl
ids_of-without id (x ∷ xs) = grind (arith, nat_tests, ids_of-without id xs)

pub times_in-filter_same : (ids : List ℕ) (id : ℕ) → times_in (filter (λ x. not (x == id)) ids) id ≡ 0
times_in-filter_same [] id = refl
times_in-filter_same (x ∷ xs) id = grind (arith, nat_tests, times_in-filter_same xs id)

pub times_in-filter_other : (ids : List ℕ) (id other : ℕ) → (other ≡ id → ⊥) → times_in (filter (λ x. not (x == id)) ids) other ≡ times_in ids other
times_in-filter_other [] id other h = refl
times_in-filter_other (x ∷ xs) id other h = grind (arith, nat_tests, times_in-filter_other xs id other h)

pub times_in-append : (xs ys : List ℕ) (id : ℕ) → times_in (xs ++ ys) id ≡ times_in xs id + times_in ys id
times_in-append [] ys id = omega arith
times_in-append (x ∷ xs) ys id = grind (arith, times_in-append xs ys id)

pub ids_of-append : (xs ys : List Creature) → ids_of (xs ++ ys) ≡ ids_of xs ++ ids_of ys
ids_of-append [] ys = refl
ids_of-append (x ∷ xs) ys = ap (λ (l : List ℕ). x.id ∷ l) (ids_of-append xs ys)

-- a number is taken out of a list that holds the living, and its creature out of the living
pub times_in-without : (id : ℕ) (ids : List ℕ) (living : List Creature) → ((k : ℕ) → times_in ids k ≡ times_in (ids_of living) k)
    → (k : ℕ) → times_in (filter (λ x. not (x == id)) ids) k ≡ times_in (ids_of (without id living)) k
times_in-without id ids living h k = rw (ids_of-without id living) (elim (eqb_tells k id) [
  | inl e ↦ rw (e.1) (times_in-filter_same ids id ∙ sym (times_in-filter_same (ids_of living) id))
  | inr e ↦ times_in-filter_other ids id k e.1 ∙ h k ∙ sym (times_in-filter_other (ids_of living) id k e.1)
])

pub is_here-times : (living : List Creature) (id : ℕ) → 0 < times_in (ids_of living) id → is_here living id ≡ true
is_here-times [] id h = absurd (omega arith)
is_here-times (x ∷ xs) id h = grind (arith, nat_tests, is_here-times xs id)

pub times-is_here : (living : List Creature) (id : ℕ) → is_here living id ≡ true → 0 < times_in (ids_of living) id
times-is_here [] id h = cc
times-is_here (x ∷ xs) id h = grind (arith, nat_tests, times-is_here xs id)
