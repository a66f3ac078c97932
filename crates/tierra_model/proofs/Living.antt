-- The living: what is found after a record is put in.
use Rattle.std.proofs.Common.{◌≡◌, ℕ, Bool, true, List, [], ◌∷◌, ◌++◌, refl, arith}
use Rattle.std.specs.Prelude.{Some, find, ◌==◌}
use Rattle.std.specs.List.{list_any}
use Rattle.std.proofs.lemmas.Bool.Decides.{nat_tests}
use Rattle.tierra_model.specs.declared.creatures.Creature.{Creature}
use Rattle.tierra_model.specs.Counting.{times_in}
use Rattle.tierra_model.specs.Living.{one_of, with_record, without, ids_of}

-- the creature with the number stands in the list
abbrev pub is_here : List Creature → ℕ → Bool
is_here living id = list_any (λ x. x.id == id) living

pub find-with_same : (c : Creature) (living : List Creature) → is_here living c.id ≡ true
    → find (λ x. x.id == c.id) (with_record c living) ≡ Some c
find-with_same c [] h = cc
find-with_same c (x ∷ xs) h = grind (arith, nat_tests, find-with_same c xs)

pub find-with_other : (c : Creature) (living : List Creature) (id : ℕ) → (id ≡ c.id → ⊥)
    → find (λ x. x.id == id) (with_record c living) ≡ find (λ x. x.id == id) living
find-with_other c [] id h = refl
find-with_other c (x ∷ xs) id h = grind (arith, nat_tests, find-with_other c xs id h)

pub with-with : (c d : Creature) (living : List Creature) → c.id ≡ d.id
    → with_record c (with_record d living) ≡ with_record c living
with-with c d [] e = refl
with-with c d (x ∷ xs) e = grind (arith, nat_tests, with-with c d xs e)

pub is_here-with : (c : Creature) (living : List Creature) (id : ℕ) → is_here (with_record c living) id ≡ is_here living id
is_here-with c [] id = refl
is_here-with c (x ∷ xs) id = grind (arith, nat_tests, is_here-with c xs id)

pub without-with : (c : Creature) (living : List Creature) (id : ℕ)
    → without id (with_record c living) ≡ with_record c (without id living)
without-with c [] id = refl
without-with c (x ∷ xs) id = grind (arith, nat_tests, without-with c xs id)

pub find-without : (living : List Creature) (id other : ℕ) → (id ≡ other → ⊥)
    → find (λ x. x.id == id) (without other living) ≡ find (λ x. x.id == id) living
find-without [] id other h = refl
find-without (x ∷ xs) id other h = grind (arith, nat_tests, find-without xs id other h)

pub is_here-without : (living : List Creature) (id other : ℕ) → (id ≡ other → ⊥)
    → is_here (without other living) id ≡ is_here living id
is_here-without [] id other h = refl
is_here-without (x ∷ xs) id other h = grind (arith, nat_tests, is_here-without xs id other h)

pub with-append : (c : Creature) (xs ys : List Creature) → with_record c (xs ++ ys) ≡ with_record c xs ++ with_record c ys
with-append c [] ys = refl
with-append c (x ∷ xs) ys = grind (arith, with-append c xs ys)

pub find-append : (xs ys : List Creature) (id : ℕ) → is_here xs id ≡ true
    → find (λ x. x.id == id) (xs ++ ys) ≡ find (λ x. x.id == id) xs
find-append [] ys id h = cc
find-append (x ∷ xs) ys id h = grind (arith, nat_tests, find-append xs ys id)

pub is_here-append : (xs ys : List Creature) (id : ℕ) → is_here xs id ≡ true → is_here (xs ++ ys) id ≡ true
is_here-append [] ys id h = cc
is_here-append (x ∷ xs) ys id h = grind (arith, nat_tests, is_here-append xs ys id)

-- the number of the creature found
pub one_of-id : (living : List Creature) (id : ℕ) → is_here living id ≡ true → (one_of living id).id ≡ id
one_of-id [] id h = cc
one_of-id (x ∷ xs) id h = grind (arith, nat_tests, one_of-id xs id)

-- the last of the list, where nobody before it has its number
pub find-last : (xs : List Creature) (c : Creature) → times_in (ids_of xs) c.id ≡ 0 → find (λ x. x.id == c.id) (xs ++ c ∷ []) ≡ Some c
find-last [] c h = grind (arith, nat_tests)
find-last (x ∷ xs) c h = grind (arith, nat_tests, find-last xs c)
