-- The living stay in the order of their birth numbers.
use Rattle.std.proofs.Common.{◌≡◌, ℕ, ◌+◌, ◌≤◌, Bool, true, false, cond, List, [], ◌∷◌, ◌++◌, refl, arith}
use Rattle.std.specs.Prelude.{not, filter, ◌==◌, nat_lt}
use Rattle.std.proofs.lemmas.Bool.Decides.{nat_tests}
use Rattle.tierra_model.specs.Counting.{times_in, one_if}
use Rattle.tierra_model.specs.Sound.{Ordered}

pub ordered-weaker : (k j : ℕ) (ids : List ℕ) → k ≤ j → Ordered j ids → Ordered k ids
ordered-weaker k j [] h o = tt
ordered-weaker k j (x ∷ xs) h o = (omega (arith, o.0), o.1)

pub ordered-filter : (k id : ℕ) (ids : List ℕ) → Ordered k ids → Ordered k (filter (λ x. not (x == id)) ids)
ordered-filter k id [] o = tt
ordered-filter k id (x ∷ xs) o = go (not (x == id)) (ordered-filter (x + 1) id xs o.1)
  where
    go : (b : Bool) → Ordered (x + 1) (filter (λ y. not (y == id)) xs)
        → Ordered k (cond b (x ∷ filter (λ y. not (y == id)) xs) (filter (λ y. not (y == id)) xs))
    go true r = (o.0, r)
    go false r = ordered-weaker k (x + 1) (filter (λ y. not (y == id)) xs) (omega (arith, o.0)) r

-- a number that none of them reaches comes last
pub ordered-push : (k next : ℕ) (ids : List ℕ) → k ≤ next → ((id : ℕ) → next ≤ id → times_in ids id ≡ 0) → Ordered k ids → Ordered k (ids ++ next ∷ [])
ordered-push k next [] h fresh o = (h, tt)
ordered-push k next (x ∷ xs) h fresh o =
    (o.0, ordered-push (x + 1) next xs (below x xs next fresh) (λ id l. (let f : one_if (x == id) + times_in xs id ≡ 0 = fresh id l in omega arith)) o.1)
  where
    below : (x : ℕ) (xs : List ℕ) (next : ℕ) → ((id : ℕ) → next ≤ id → times_in (x ∷ xs) id ≡ 0) → x + 1 ≤ next
    below x xs next fresh = go (nat_lt x next) refl
      where
        go : (b : Bool) → nat_lt x next ≡ b → x + 1 ≤ next
        go true e = grind (arith, nat_tests)
        go false e =
            let l : next ≤ x = grind (arith, nat_tests) in
            let f : one_if (x == x) + times_in xs x ≡ 0 = fresh x l in
            let one : (x == x) ≡ true = grind (arith, nat_tests) in
            let g : one_if true + times_in xs x ≡ 0 = rw one at f in
            absurd (omega arith)
