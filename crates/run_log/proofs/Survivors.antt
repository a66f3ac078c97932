-- Those of the living and the newborn who live after a quantum are the living after it, in their order.
use Rattle.std.proofs.Common.{◌≡◌, ◌≤◌, ◌<◌, ◌+◌, ◌-◌, ℕ, Bool, true, false, cond, List, [], ◌∷◌, ◌++◌, ap, sym, refl, arith, inl, inr, length, length-append}
use Rattle.std.specs.Prelude.{filter, nat_lt, not, ◌==◌}
use Rattle.std.proofs.lemmas.Bool.Decides.{leb_tells, nat_tests}
use Rattle.std.proofs.lemmas.List.{length-map}
use Rattle.std.proofs.lemmas.List.Filters.{length-filter_both}
use Rattle.std.proofs.lemmas.List.FromFn.{length-range_with_len}
use Rattle.tierra_model.specs.declared.creatures.Creature.{Creature}
use Rattle.tierra_model.specs.Counting.{one_if, times_in}
use Rattle.tierra_model.specs.Living.{ids_of}
use Rattle.tierra_model.specs.Sound.{IsSound, Ordered}
use Rattle.tierra_model.specs.World.{World}
use Rattle.tierra_model.proofs.BirthOrder.{ordered-weaker}
use Rattle.tierra_model.proofs.Owners.{times_in-append}
use Rattle.tierra_model.proofs.Sound.{sound-each_once, sound-id_below}
use Rattle.run_log.specs.Curve.{born_in, dead_in, lived_in, lives}
use Rattle.run_log.proofs.Numbers.{ordered-none, ordered-range, range-has, times_in-failed, times_in-passed}
use Rattle.run_log.proofs.Later.{IsLater}

-- ---- ordered lists with the same numbers are the same

here : (x : ℕ) (xs : List ℕ) → 1 ≤ times_in (x ∷ xs) x
here x xs = (let one : one_if (x == x) ≡ 1 = same x in omega (arith, one))
  where
    same : (x : ℕ) → one_if (x == x) ≡ 1
    same x = grind (arith, nat_tests)

-- the first of one is not below the first of the other
not_below : (x y : ℕ) (xs ys : List ℕ) → Ordered (y + 1) ys → times_in (x ∷ xs) x ≡ times_in (y ∷ ys) x → y ≤ x
not_below x y xs ys o same = elim (leb_tells y x) [
  | inl le ↦ le.1
  | inr gt ↦ (
      let none = ordered-none (y + 1) x ys o (omega (arith, gt.1)) in
      let other : one_if (y == x) ≡ 0 = differs y x gt.1 in
      absurd (omega (arith, here x xs, same, none, other)))
]
  where
    differs : (y x : ℕ) → x < y → one_if (y == x) ≡ 0
    differs y x below = grind (arith, nat_tests)

pub same_ordered : (k j : ℕ) (xs ys : List ℕ) → Ordered k xs → Ordered j ys → ((id : ℕ) → times_in xs id ≡ times_in ys id) → xs ≡ ys
same_ordered k j [] [] o p same = refl
same_ordered k j [] (y ∷ ys) o p same = absurd (omega (arith, same y, here y ys))
same_ordered k j (x ∷ xs) [] o p same = absurd (omega (arith, same x, here x xs))
same_ordered k j (x ∷ xs) (y ∷ ys) o p same =
    let one : x ≡ y = omega (arith, not_below x y xs ys p.1 (same x), not_below y x ys xs o.1 (sym (same y))) in
    let rest : xs ≡ ys = same_ordered (x + 1) (y + 1) xs ys o.1 p.1 (λ id. omega (arith, same id, ap (λ (n : ℕ). one_if (n == id)) one)) in
    λ i. one i ∷ rest i

-- ---- order

ordered-append : (k m : ℕ) (xs ys : List ℕ) → k ≤ m → ((id : ℕ) → m ≤ id → times_in xs id ≡ 0) → Ordered k xs → Ordered m ys → Ordered k (xs ++ ys)
ordered-append k m [] ys le fresh o p = ordered-weaker k m ys le p
ordered-append k m (x ∷ xs) ys le fresh o p =
    (o.0, ordered-append (x + 1) m xs ys (below x m xs fresh) (λ id h. omega (arith, fresh id h)) o.1 p)
  where
    below : (x m : ℕ) (xs : List ℕ) → ((id : ℕ) → m ≤ id → times_in (x ∷ xs) id ≡ 0) → x + 1 ≤ m
    below x m xs fresh = elim (leb_tells m x) [
      | inl le ↦ absurd (omega (arith, fresh x le.1, here x xs))
      | inr lt ↦ omega (arith, lt.1)
    ]

ordered-filter_by : (k : ℕ) (p : ℕ → Bool) (xs : List ℕ) → Ordered k xs → Ordered k (filter p xs)
ordered-filter_by k p [] o = tt
ordered-filter_by k p (x ∷ xs) o = one (p x) o.0 (ordered-filter_by (x + 1) p xs o.1)
  where
    one : (b : Bool) → k ≤ x → Ordered (x + 1) (filter p xs) → Ordered k (cond b (x ∷ filter p xs) (filter p xs))
    one true le r = (le, r)
    one false le r = ordered-weaker k (x + 1) (filter p xs) (omega (arith, le)) r

-- ---- who lives on

module _ (v w : World) (sv : IsSound v) (sw : IsSound w) (l : IsLater v w) where
  abbrev new : ℕ
  new = w.next_birth - v.next_birth

  fresh : (id : ℕ) → v.next_birth ≤ id → times_in (ids_of v.living) id ≡ 0
  fresh = (sound-each_once v sv).fresh

  pub lived-ordered : Ordered 1 (lived_in v w)
  lived-ordered =
      ordered-append 1 v.next_birth (ids_of v.living) (born_in v w) (omega (arith, sv.living_and_dead)) fresh sv.ordered (ordered-range v.next_birth new)

  -- who lives after it is counted once among those who lived or were born
  once : (id : ℕ) → 0 < times_in (ids_of w.living) id → times_in (lived_in v w) id ≡ 1
  once id some = elim (leb_tells v.next_birth id) [
    | inl born ↦ (
        let below = sound-id_below w id sw some in
        let range = range-has v.next_birth new id born.1 (omega (arith, below, l.next_birth)) in
        omega (arith, times_in-append (ids_of v.living) (born_in v w) id, fresh id born.1, range))
    | inr old ↦ (
        let none = ordered-none v.next_birth id (born_in v w) (ordered-range v.next_birth new) old.1 in
        omega (arith, times_in-append (ids_of v.living) (born_in v w) id, none, l.lived id old.1, sv.once id, some))
  ]

  counted : (id : ℕ) (b : Bool) → lives w id ≡ b → times_in (filter (lives w) (lived_in v w)) id ≡ times_in (ids_of w.living) id
  counted id true e =
      let some : 0 < times_in (ids_of w.living) id = yes _ e in
      omega (arith, times_in-passed (lives w) (lived_in v w) id e, once id some, sw.once id, some)
    where
      yes : (n : ℕ) → nat_lt 0 n ≡ true → 0 < n
      yes n e = grind (arith, nat_tests)
  counted id false e =
      let none : times_in (ids_of w.living) id ≡ 0 = no _ e in
      omega (arith, times_in-failed (lives w) (lived_in v w) id e, none)
    where
      no : (n : ℕ) → nat_lt 0 n ≡ false → n ≡ 0
      no n e = grind (arith, nat_tests)

  pub survivors : filter (lives w) (lived_in v w) ≡ ids_of w.living
  survivors =
      same_ordered 1 1 (filter (lives w) (lived_in v w)) (ids_of w.living) (ordered-filter_by 1 (lives w) (lived_in v w) lived-ordered) sw.ordered
      (λ id. counted id (lives w id) refl)

  -- as many died as are recorded
  pub deaths-counted : v.deaths + length (dead_in v w) ≡ w.deaths
  deaths-counted =
      let both = length-filter_both (lives w) (λ id. not (lives w id)) (λ id. refl) (lived_in v w) in
      let left = ap length survivors in
      let after = length-map w.living (λ (c : Creature). c.id) in
      let before = length-map v.living (λ (c : Creature). c.id) in
      let long = length-append (ids_of v.living) (born_in v w) in
      let range = length-range_with_len v.next_birth new in
      omega (arith, both, left, after, before, long, range, l.next_birth, sv.living_and_dead, sw.living_and_dead)
