-- Creatures in the order of their birth numbers: where one stands, and the list with its record changed or without it.
use Rattle.std.proofs.Common.{◌≡◌, ℕ, zero, suc, ◌+◌, ◌<◌, ◌≤◌, List, [], ◌∷◌, refl, arith, get_or, length, set, remove}
use Rattle.std.proofs.lemmas.Bool.Decides.{nat_tests}
use Rattle.std.specs.Prelude.{None, Some, find, ◌==◌}
use Rattle.std.specs.List.Sorted.{IsNonDecreasingBy}
use Rattle.tierra_model.specs.declared.creatures.Creature.{Creature}
use Rattle.tierra_model.specs.Counting.{times_in}
use Rattle.tierra_model.specs.Living.{ids_of, with_record, without}
use Rattle.tierra_model.specs.Sound.{Ordered}
use Rattle.tierra_model.proofs.Owners.{with_record-none, without-none}

pub id-at_least : (low : ℕ) (xs : List Creature) (k : ℕ) (d : Creature) → Ordered low (ids_of xs) → k < length xs → low ≤ (get_or xs k d).id
id-at_least low [] k d o h = absurd (omega arith)
id-at_least low (x ∷ xs) zero d o h = o.0
id-at_least low (x ∷ xs) (suc k) d o h =
    let first : low ≤ x.id = o.0 in
    let later : x.id + 1 ≤ (get_or xs k d).id = id-at_least (x.id + 1) xs k d o.1 (omega arith) in
    omega arith

pub ids-rise : (low : ℕ) (xs : List Creature) → Ordered low (ids_of xs) → IsNonDecreasingBy (λ (c : Creature). c.id) xs
ids-rise low [] o i j d l m = absurd (omega arith)
ids-rise low (x ∷ xs) o zero zero d l m = omega arith
ids-rise low (x ∷ xs) o zero (suc j) d l m =
    let later : x.id + 1 ≤ (get_or xs j d).id = id-at_least (x.id + 1) xs j d o.1 (omega arith) in
    omega arith
ids-rise low (x ∷ xs) o (suc i) zero d l m = absurd (omega arith)
ids-rise low (x ∷ xs) o (suc i) (suc j) d l m = ids-rise (x.id + 1) xs o.1 i j d (omega arith) (omega arith)

-- nobody has a number below the first
pub none-below : (low id : ℕ) (xs : List Creature) → Ordered low (ids_of xs) → id < low → times_in (ids_of xs) id ≡ 0
none-below low id [] o h = refl
none-below low id (x ∷ xs) o h =
    let first : low ≤ x.id = o.0 in
    let rest : times_in (ids_of xs) id ≡ 0 = none-below (x.id + 1) id xs o.1 (omega arith) in
    grind (arith, nat_tests)

-- nobody has the number, where those before a place have lower ones, and those from it on have higher ones
pub none-around : (low id : ℕ) (xs : List Creature) (i : ℕ) (d : Creature) → Ordered low (ids_of xs)
    → ((k : ℕ) → k < i → k < length xs → (get_or xs k d).id < id) → (i < length xs → id < (get_or xs i d).id) → times_in (ids_of xs) id ≡ 0
none-around low id [] i d o before at = refl
none-around low id (x ∷ xs) zero d o before at =
    let higher : id < x.id = at (omega arith) in
    let rest : times_in (ids_of xs) id ≡ 0 = none-below (x.id + 1) id xs o.1 (omega arith) in
    grind (arith, nat_tests)
none-around low id (x ∷ xs) (suc i) d o before at =
    let lower : x.id < id = before zero (omega arith) (omega arith) in
    let rest : times_in (ids_of xs) id ≡ 0 = none-around (x.id + 1) id xs i d o.1 (λ k h l. before (suc k) (omega arith) (omega arith))
    (λ h. at (omega arith)) in
    grind (arith, nat_tests)

pub found-at : (low id : ℕ) (xs : List Creature) (k : ℕ) (d : Creature) → Ordered low (ids_of xs) → k < length xs → (get_or xs k d).id ≡ id
    → find (λ c. c.id == id) xs ≡ Some (get_or xs k d)
found-at low id [] k d o h e = absurd (omega arith)
found-at low id (x ∷ xs) zero d o h e = grind (arith, nat_tests)
found-at low id (x ∷ xs) (suc k) d o h e =
    let later : x.id + 1 ≤ (get_or xs k d).id = id-at_least (x.id + 1) xs k d o.1 (omega arith) in
    let rest : find (λ c. c.id == id) xs ≡ Some (get_or xs k d) = found-at (x.id + 1) id xs k d o.1 (omega arith) e in
    grind (arith, nat_tests)

pub none-found : (id : ℕ) (xs : List Creature) → times_in (ids_of xs) id ≡ 0 → find (λ c. c.id == id) xs ≡ None
none-found id [] h = refl
none-found id (x ∷ xs) h = grind (arith, nat_tests, none-found id xs)

pub put-at : (low : ℕ) (c : Creature) (xs : List Creature) (k : ℕ) (d : Creature) → Ordered low (ids_of xs) → k < length xs → (get_or xs k d).id ≡ c.id
    → set xs k c ≡ with_record c xs
put-at low c [] k d o h e = absurd (omega arith)
put-at low c (x ∷ xs) zero d o h e =
    let rest : with_record c xs ≡ xs = with_record-none c xs (none-below (x.id + 1) c.id xs o.1 (omega arith)) in
    grind (arith, nat_tests)
put-at low c (x ∷ xs) (suc k) d o h e =
    let later : x.id + 1 ≤ (get_or xs k d).id = id-at_least (x.id + 1) xs k d o.1 (omega arith) in
    let rest : set xs k c ≡ with_record c xs = put-at (x.id + 1) c xs k d o.1 (omega arith) e in
    grind (arith, nat_tests)

pub removed-at : (low id : ℕ) (xs : List Creature) (k : ℕ) (d : Creature) → Ordered low (ids_of xs) → k < length xs → (get_or xs k d).id ≡ id
    → remove xs k ≡ without id xs
removed-at low id [] k d o h e = absurd (omega arith)
removed-at low id (x ∷ xs) zero d o h e =
    let rest : without id xs ≡ xs = without-none xs id (none-below (x.id + 1) id xs o.1 (omega arith)) in
    grind (arith, nat_tests)
removed-at low id (x ∷ xs) (suc k) d o h e =
    let later : x.id + 1 ≤ (get_or xs k d).id = id-at_least (x.id + 1) xs k d o.1 (omega arith) in
    let rest : remove xs k ≡ without id xs = removed-at (x.id + 1) id xs k d o.1 (omega arith) e in
    grind (arith, nat_tests)
