-- A queue in which nobody stands twice, and its changes.
use Rattle.std.proofs.Common.{◌≡◌, ℕ, zero, suc, ◌<◌, ◌≤◌, List, [], ◌∷◌, ◌++◌, length, refl, ap, ◌∙◌, arith, take, drop, remove, inl, inr}
use Rattle.std.proofs.lemmas.Bool.Decides.{nat_tests, eqb_tells}
use Rattle.std.proofs.lemmas.List.{take-append-drop}
use Rattle.std.proofs.lemmas.List.Quantifiers.{position-Some}
use Rattle.std.specs.Prelude.{Some, filter, not, position, ◌==◌, slice_index}
use Rattle.tierra_model.specs.Counting.{times_in}
use Rattle.tierra_model.specs.Queue.{without_place}
use Rattle.tierra_model.proofs.Owners.{times_in-append, times_in-filter_same, times_in-filter_other}
use Rattle.tierra_model.proofs.Yards.{without_place-filter}

-- nobody stands in it twice
abbrev pub Once : List ℕ → Type 0
Once ids = (id : ℕ) → times_in ids id ≤ 1

pub once_push : (ids : List ℕ) (id : ℕ) → Once ids → times_in ids id ≡ 0 → Once (ids ++ id ∷ [])
once_push ids id once absent k = elim (eqb_tells k id) [
  | inl e ↦ (let gone : times_in ids k ≡ 0 = ap (times_in ids) e.1 ∙ absent in grind (arith, nat_tests, times_in-append ids (id ∷ []) k))
  | inr e ↦ (let before : times_in ids k ≤ 1 = once k in grind (arith, nat_tests, times_in-append ids (id ∷ []) k))
]

pub once_turn : (n : ℕ) (ids : List ℕ) → Once ids → Once (drop n ids ++ take n ids)
once_turn n ids once k =
    let whole : times_in (take n ids ++ drop n ids) k ≡ times_in ids k = ap (λ (l : List ℕ). times_in l k) (take-append-drop n ids) in
    let before : times_in ids k ≤ 1 = once k in
    omega (arith, times_in-append (drop n ids) (take n ids) k, times_in-append (take n ids) (drop n ids) k)

remove-without : (ids : List ℕ) (place : ℕ) → place < length ids → remove ids place ≡ without_place place ids
remove-without [] place h = absurd (omega arith)
remove-without (x ∷ xs) zero h = refl
remove-without (x ∷ xs) (suc k) h = ap (λ (l : List ℕ). x ∷ l) (remove-without xs k (omega arith))

pub remove-filter : (ids : List ℕ) (place id : ℕ) → Once ids → position (λ x. x == id) ids ≡ Some place
    → remove ids place ≡ filter (λ x. not (x == id)) ids
remove-filter ids place id once found =
    let there = position-Some (λ x. x == id) ids place 0 found in
    let here : slice_index ids place ≡ id = grind (arith, nat_tests, there.1) in
    let gone : without_place place ids ≡ filter (λ x. not (x == slice_index ids place)) ids =
    without_place-filter place ids there.0 (once (slice_index ids place)) in
    remove-without ids place there.0 ∙ gone ∙ ap (λ (k : ℕ). filter (λ x. not (x == k)) ids) here

pub once_filter : (ids : List ℕ) (id : ℕ) → Once ids → Once (filter (λ x. not (x == id)) ids)
once_filter ids id once k = elim (eqb_tells k id) [
  | inl e ↦ (let gone : times_in (filter (λ x. not (x == id)) ids) k ≡ 0 = ap (times_in (filter (λ x. not (x == id)) ids)) e.1 ∙ times_in-filter_same ids id in
      omega arith)
  | inr e ↦ (let before : times_in ids k ≤ 1 = once k in omega (arith, times_in-filter_other ids id k e.1))
]
