-- The living, found again by sorting those in the slicer queue.
use Rattle.std.proofs.Common.{◌≡◌, ◌∙◌, ℕ, suc, ◌+◌, ◌<◌, ◌≤◌, List, [], ◌∷◌, refl, sym, ap, ap₂, subst, arith, get_or, length, map, true, inl, inr}
use Rattle.std.specs.Prelude.{◌↔◌, fold, unwrap_or, ◌==◌}
use Rattle.std.specs.List.{sum_by}
use Rattle.std.specs.List.Sorted.{IsNonDecreasingBy, IsPermutation}
use Rattle.std.proofs.lemmas.Bool.{cases_lt}
use Rattle.std.proofs.lemmas.Bool.Decides.{nat_tests}
use Rattle.std.proofs.lemmas.List.Sorted.{All-permutation, sum_by-IsPermutation}
use Rattle.tierra_model.specs.declared.creatures.Creature.{Creature}
use Rattle.tierra_model.specs.Counting.{one_if, sum_of, times_in}
use Rattle.tierra_model.specs.Living.{ids_of, nobody, one_of}
use Rattle.tierra_model.specs.Sound.{IsSound, Ordered}
use Rattle.tierra_model.specs.World.{World}
use Rattle.tierra_model.proofs.Each.{Each, all_from_each, each_from_all}
use Rattle.tierra_model.proofs.Living.{is_here, one_of-id}
use Rattle.tierra_model.proofs.Owners.{is_here-times}
use Rattle.world_state.proofs.BirthNumbers.{found-at}

-- ---- counts stay where a list is put in another order

added : {X : Type 0} (f : X → ℕ) (a : ℕ) (xs : List X) → fold (λ (s : ℕ) (x : X). s + f x) a xs ≡ a + sum_of f xs
added f a [] = omega arith
added f a (x ∷ xs) = omega (arith, added f (a + f x) xs)

pub same_sum : {X : Type 0} (f : X → ℕ) (xs : List X) → sum_by f xs ≡ sum_of f xs
same_sum f xs = omega (arith, added f 0 xs)

times_of : (id : ℕ) (xs : List Creature) → times_in (ids_of xs) id ≡ sum_of (λ c. one_if (c.id == id)) xs
times_of id [] = refl
times_of id (x ∷ xs) = ap (λ (n : ℕ). one_if (x.id == id) + n) (times_of id xs)

pub times-permuted : (xs ys : List Creature) → IsPermutation xs ys → (id : ℕ) → times_in (ids_of ys) id ≡ times_in (ids_of xs) id
times-permuted xs ys moved id =
    let f : Creature → ℕ = λ c. one_if (c.id == id) in
    times_of id ys ∙ sym (same_sum f ys) ∙ sum_by-IsPermutation f xs ys moved ∙ same_sum f xs ∙ sym (times_of id xs)

-- ---- a list in order is told by its numbers

none-lower : (low id : ℕ) (xs : List ℕ) → Ordered low xs → id < low → times_in xs id ≡ 0
none-lower low id [] o lt = refl
none-lower low id (x ∷ xs) o lt =
    let first : low ≤ x = o.0 in
    let rest : times_in xs id ≡ 0 = none-lower (x + 1) id xs o.1 (omega arith) in
    grind (arith, nat_tests)

not-lower : (k x y : ℕ) (xs ys : List ℕ) → Ordered k (y ∷ ys) → times_in (x ∷ xs) x ≡ times_in (y ∷ ys) x → y ≤ x
not-lower k x y xs ys o same =
    elim (cases_lt x y) [
      | inl lt ↦ (let rest : times_in ys x ≡ 0 = none-lower (y + 1) x ys o.1 (omega arith) in absurd (grind (arith, nat_tests)))
      | inr le ↦ le
    ]

pub ordered-same : (k : ℕ) (xs ys : List ℕ) → Ordered k xs → Ordered k ys → ((id : ℕ) → times_in xs id ≡ times_in ys id) → xs ≡ ys
ordered-same k [] [] o p same = refl
ordered-same k [] (y ∷ ys) o p same = (let e = same y in absurd (grind (arith, nat_tests)))
ordered-same k (x ∷ xs) [] o p same = (let e = same x in absurd (grind (arith, nat_tests)))
ordered-same k (x ∷ xs) (y ∷ ys) o p same =
    let low : y ≤ x = not-lower k x y xs ys p (same x) in
    let high : x ≤ y = not-lower k y x ys xs o (sym (same y)) in
    let is : x ≡ y = omega arith in
    let p' : Ordered (x + 1) ys = subst (λ n. Ordered (n + 1) ys) (sym is) p.1 in
    let rest : xs ≡ ys = ordered-same (x + 1) xs ys o.1 p' (λ id. (let s = same id in grind (arith, nat_tests))) in
    ap₂ (λ (n : ℕ) (l : List ℕ). n ∷ l) is rest

-- ---- a list that never falls and has nothing twice

absent : (low id : ℕ) (xs : List Creature) → ((j : ℕ) (d : Creature) → j < length xs → low ≤ (get_or xs j d).id) → id < low
    → times_in (ids_of xs) id ≡ 0
absent low id [] above lt = refl
absent low id (x ∷ xs) above lt =
    let first : low ≤ x.id = above 0 x (omega arith) in
    let rest : times_in (ids_of xs) id ≡ 0 = absent low id xs (λ j d h. above (suc j) d (omega arith)) lt in
    grind (arith, nat_tests)

pub in-order : (k : ℕ) (xs : List Creature) → IsNonDecreasingBy (λ (c : Creature). c.id) xs → ((id : ℕ) → times_in (ids_of xs) id ≤ 1)
    → ((id : ℕ) → id < k → times_in (ids_of xs) id ≡ 0) → Ordered k (ids_of xs)
in-order k [] up once none = tt
in-order k (x ∷ xs) up once none =
    let first : k ≤ x.id = elim (cases_lt x.id k) [
      | inl lt ↦ (let n = none x.id lt in absurd (grind (arith, nat_tests)))
      | inr le ↦ le
    ] in (
      first,
      in-order (x.id + 1) xs (λ i j d l m. up (suc i) (suc j) d (omega arith) (omega arith))
          (λ id. (let o = once id in grind (arith, nat_tests)))
          (λ id lt. elim (cases_lt id x.id) [
            | inl below ↦ absent x.id id xs (λ j d h. up 0 (suc j) d (omega arith) (omega arith)) below
            | inr le ↦ (let o = once id in let is : x.id ≡ id = omega arith in grind (arith, nat_tests))
          ]),
    )

-- ---- the records

-- the creature is the one that is found under its number
abbrev pub IsFound : List Creature → Creature → Type 0
IsFound living c = one_of living c.id ≡ c

each-index : (P : Creature → Type 0) (xs : List Creature) → ((k : ℕ) → k < length xs → P (get_or xs k nobody)) → Each P xs
each-index P [] h = tt
each-index P (x ∷ xs) h = (h 0 (omega arith), each-index P xs (λ k lt. h (suc k) (omega arith)))

all-found : (living : List Creature) → Ordered 1 (ids_of living) → Each (IsFound living) living
all-found living o =
    each-index (IsFound living) living (λ k lt. ap (λ f. unwrap_or f nobody) (found-at 1 (get_or living k nobody).id living k nobody o lt refl))

map-found : (living xs : List Creature) → Each (IsFound living) xs → map (one_of living) (ids_of xs) ≡ xs
map-found living [] h = refl
map-found living (x ∷ xs) h = ap₂ (λ (c : Creature) (l : List Creature). c ∷ l) h.0 (map-found living xs h.1)

-- the living are found by their numbers
pub found-again : (living : List Creature) → Ordered 1 (ids_of living) → map (one_of living) (ids_of living) ≡ living
found-again living o = map-found living living (all-found living o)

-- each number of the list is that of somebody who lives
abbrev pub AreHere : List Creature → List ℕ → Type 0
AreHere living ids = Each (λ id. is_here living id ≡ true) ids

line-found : (living : List Creature) (ids : List ℕ) → AreHere living ids → Each (IsFound living) (map (one_of living) ids)
line-found living [] h = tt
line-found living (id ∷ ids) h = (ap (one_of living) (one_of-id living id h.0), line-found living ids h.1)

pub ids-of_line : (living : List Creature) (ids : List ℕ) → AreHere living ids → ids_of (map (one_of living) ids) ≡ ids
ids-of_line living [] h = refl
ids-of_line living (id ∷ ids) h = ap₂ (λ (n : ℕ) (l : List ℕ). n ∷ l) (one_of-id living id h.0) (ids-of_line living ids h.1)

-- what a list has, it has at least once
pub each-times : (P : ℕ → Type 0) (ids : List ℕ) → ((id : ℕ) → 0 < times_in ids id → P id) → Each P ids
each-times P [] h = tt
each-times P (x ∷ xs) h = (h x (grind (arith, nat_tests)), each-times P xs (λ id lt. h id (omega (arith, lt))))

pub are-here : (living : List Creature) (ids : List ℕ) → ((id : ℕ) → times_in ids id ≡ times_in (ids_of living) id) → AreHere living ids
are-here living ids same =
    each-times (λ id. is_here living id ≡ true) ids (λ id lt. is_here-times living id (let s = same id in omega (arith, lt)))

-- the living of a sound world in the order of the slicer queue
abbrev pub line_of : World → List Creature
line_of w = map (one_of w.living) w.slicer

pub sorted-again : (w : World) (xs : List Creature) → IsSound w → IsPermutation (line_of w) xs
    → IsNonDecreasingBy (λ (c : Creature). c.id) xs → xs ≡ w.living
sorted-again w xs s moved up =
    let here = are-here w.living w.slicer s.slicer in
    let times : (id : ℕ) → times_in (ids_of xs) id ≡ times_in (ids_of w.living) id =
    λ id. times-permuted (line_of w) xs moved id ∙ ap (λ (l : List ℕ). times_in l id) (ids-of_line w.living w.slicer here) ∙ s.slicer id in
    let o : Ordered 1 (ids_of xs) = in-order 1 xs up (λ id. (let t = times id in let c = s.once id in omega arith))
    (λ id lt. times id ∙ none-lower 1 id (ids_of w.living) s.ordered lt) in
    let ids : ids_of xs ≡ ids_of w.living = ordered-same 1 (ids_of xs) (ids_of w.living) o s.ordered times in
    let found = each_from_all (IsFound w.living) xs (All-permutation (IsFound w.living) (line_of w) xs moved
    (all_from_each (IsFound w.living) (line_of w) (line-found w.living w.slicer here))) in
    sym (map-found w.living xs found) ∙ ap (map (one_of w.living)) ids ∙ found-again w.living s.ordered

-- ---- numbers that were sorted

lower-times : (low id : ℕ) (xs : List ℕ) → ((j d : ℕ) → j < length xs → low ≤ get_or xs j d) → id < low → times_in xs id ≡ 0
lower-times low id [] above lt = refl
lower-times low id (x ∷ xs) above lt =
    let first : low ≤ x = above 0 x (omega arith) in
    let rest : times_in xs id ≡ 0 = lower-times low id xs (λ j d h. above (suc j) d (omega arith)) lt in
    grind (arith, nat_tests)

pub numbers-in-order : (k : ℕ) (xs : List ℕ) → IsNonDecreasingBy (λ n. n) xs → ((id : ℕ) → times_in xs id ≤ 1)
    → ((id : ℕ) → id < k → times_in xs id ≡ 0) → Ordered k xs
numbers-in-order k [] up once none = tt
numbers-in-order k (x ∷ xs) up once none =
    let first : k ≤ x = elim (cases_lt x k) [
      | inl lt ↦ (let n = none x lt in absurd (grind (arith, nat_tests)))
      | inr le ↦ le
    ] in (
      first,
      numbers-in-order (x + 1) xs (λ i j d l m. up (suc i) (suc j) d (omega arith) (omega arith))
          (λ id. (let o = once id in grind (arith, nat_tests)))
          (λ id lt. elim (cases_lt id x) [
            | inl below ↦ lower-times x id xs (λ j d h. up 0 (suc j) d (omega arith) (omega arith)) below
            | inr le ↦ (let o = once id in let is : x ≡ id = omega arith in grind (arith, nat_tests))
          ]),
    )

pub times-once : (k id : ℕ) (xs : List ℕ) → Ordered k xs → times_in xs id ≤ 1
times-once k id [] o = omega arith
times-once k id (x ∷ xs) o =
    elim (cases_lt id (x + 1)) [
      | inl lt ↦ (let rest : times_in xs id ≡ 0 = none-lower (x + 1) id xs o.1 lt in grind (arith, nat_tests))
      | inr le ↦ (let rest : times_in xs id ≤ 1 = times-once (x + 1) id xs o.1 in grind (arith, nat_tests))
    ]

same_times : (xs ys : List ℕ) → IsPermutation xs ys → (id : ℕ) → times_in ys id ≡ times_in xs id
same_times xs ys moved id =
    let f : ℕ → ℕ = λ x. one_if (x == id) in
    sym (same_sum f ys) ∙ sum_by-IsPermutation f xs ys moved ∙ same_sum f xs

-- the sorted list is one in order exactly where the two have the same numbers
pub sorted-is : (xs sorted ys : List ℕ) → IsPermutation xs sorted → IsNonDecreasingBy (λ n. n) sorted → Ordered 0 ys
    → (sorted ≡ ys) ↔ ((id : ℕ) → times_in xs id ≡ times_in ys id)
sorted-is xs sorted ys moved up o = (
  λ same id. sym (same_times xs sorted moved id) ∙ ap (λ (l : List ℕ). times_in l id) same,
  λ same.
      let times : (id : ℕ) → times_in sorted id ≡ times_in ys id = λ id. same_times xs sorted moved id ∙ same id in
      ordered-same 0 sorted ys (numbers-in-order 0 sorted up
      (λ id. (let t = times id in let c = times-once 0 id ys o in omega arith)) (λ id lt. absurd (omega arith))) o times,
)
