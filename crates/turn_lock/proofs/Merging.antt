-- The loop that takes in the counts of another seat.
use Rattle.std.proofs.Common.{◌≡◌, ℕ, ◌+◌, ◌<◌, ◌≤◌, List, length, get_or, set, sym, refl, ap, ◌∙◌, arith, Option, None, length-set, get_or-set_other}
use Rattle.std.proofs.Common.{get_or-set_same}
use Rattle.std.specs.Option.{option_or}
use mathlib.Core.Logic.{dite}
use native.Mathlib.Decide.{ℕ_discrete}
use Rattle.std.proofs.lemmas.List.{ext_get_or}
use Rattle.turn_lock.specs.View.{merged}
use Rattle.turn_lock.proofs.OwnCounts.{length-merged, get_or-merged}

-- the places below i have taken in what the other has
pub record MergedBelow (xs ys own : List (Option ℕ)) (i : ℕ) : Type 0 where
  pub places : length own ≡ length xs
  pub below : (k : ℕ) → k < i → get_or own k None ≡ option_or (get_or xs k None) (get_or ys k None)
  pub above : (k : ℕ) → i ≤ k → get_or own k None ≡ get_or xs k None

pub merged_none : (xs ys : List (Option ℕ)) → MergedBelow xs ys xs 0
merged_none xs ys = record { places = refl; below = λ k h. absurd (omega arith); above = λ k h. refl }

pub merged_more : (xs ys own : List (Option ℕ)) (i : ℕ) → i < length own → MergedBelow xs ys own i
    → MergedBelow xs ys (set own i (option_or (get_or own i None) (get_or ys i None))) (i + 1)
merged_more xs ys own i inside was =
    let o : Option ℕ = option_or (get_or own i None) (get_or ys i None) in record {
      places = length-set own i o ∙ was.places;
      below = λ k h. dite (ℕ_discrete k i)
          (λ e. ap (λ (j : ℕ). get_or (set own i o) j None) e ∙ (get_or-set_same own i o None inside
          ∙ (ap (λ (z : Option ℕ). option_or z (get_or ys i None)) (was.above i (omega arith))
          ∙ ap (λ (j : ℕ). option_or (get_or xs j None) (get_or ys j None)) (sym e))))
          (λ other. get_or-set_other own i k o None other ∙ was.below k (omega arith));
      above = λ k h. get_or-set_other own i k o None (λ e. omega arith) ∙ was.above k (omega arith);
    }

pub merged_all : (xs ys own : List (Option ℕ)) (i : ℕ) → length xs ≡ length ys → i ≡ length xs → MergedBelow xs ys own i
    → own ≡ merged xs ys
merged_all xs ys own i e is was =
    let places = was.places in
    ext_get_or None own (merged xs ys) (was.places ∙ sym (length-merged xs ys e)) (λ k h. was.below k (omega arith) ∙ sym (get_or-merged xs ys k))
