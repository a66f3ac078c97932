-- The parts of a list that is split where a test passes.
use Rattle.std.proofs.Common.{◌≡◌, ℕ, ◌≤◌, Bool, true, false, cond, List, [], ◌∷◌, ◌++◌, length, ltb, not, Option, Some, None, unwrap_or, drop, one-add, refl}
use Rattle.std.proofs.Common.{sym, subst, ap, ◌∙◌, ◌+◌, arith}
use Rattle.std.specs.Prelude.{All}
use Rattle.std.specs.List.{before_first, onto_first, position_or_len, slice_split}
use Rattle.std.proofs.lemmas.Bool.Decides.{nat_tests}
use Rattle.std.proofs.lemmas.List.Elements.{All-cons, All-head, All-nil, All-same, All-tail}
use Rattle.std.proofs.lemmas.List.Splits.{slice_split-cons_no}
use Rattle.std.proofs.lemmas.List.Sums.{prefix_len-le-length, take_while-cons}

-- a place within, or the end
within_or_end : (k n : ℕ) → k ≤ n → unwrap_or (cond (ltb k n) (Some k) None) n ≡ k
within_or_end k n bound = grind (arith, nat_tests)

module _ {A : Type 0} (p : A → Bool) where
  -- there is a first part
  pub some_part : (xs : List A) → (part : List A) × (parts : List (List A)) × (slice_split p xs ≡ part ∷ parts)
  some_part [] = ([], [], refl)
  some_part (x ∷ xs) =
      let rest = some_part xs in
      elim (p x) as (λ b. (part : List A) × (parts : List (List A)) × (cond b ([] ∷ slice_split p xs) (onto_first x (slice_split p xs)) ≡ part ∷ parts)) [
        | true ↦ ([], slice_split p xs, refl)
        | false ↦ (x ∷ rest.0, rest.1, ap (onto_first x) rest.2)
      ]

  abbrev pub Fails : A → Type 0
  Fails x = p x ≡ false

  -- what passes nowhere joins the first part
  pub slice_split_onto : (front xs part : List A) (parts : List (List A)) → All Fails front → slice_split p xs ≡ part ∷ parts
      → slice_split p (front ++ xs) ≡ (front ++ part) ∷ parts
  slice_split_onto [] xs part parts fails split = split
  slice_split_onto (x ∷ front) xs part parts fails split =
      slice_split-cons_no p x (front ++ xs) (All-head Fails x front fails)
      ∙ ap (onto_first x) (slice_split_onto front xs part parts (All-tail Fails x front fails) split)

  pub before_first-yes : (x : A) (xs : List A) → p x ≡ true → before_first p (x ∷ xs) ≡ []
  before_first-yes x xs passes = take_while-cons (λ y. not (p y)) x xs ∙ ap (λ b. cond (not b) (x ∷ before_first p xs) []) passes

  pub before_first-no : (x : A) (xs : List A) → p x ≡ false → before_first p (x ∷ xs) ≡ x ∷ before_first p xs
  before_first-no x xs fails = take_while-cons (λ y. not (p y)) x xs ∙ ap (λ b. cond (not b) (x ∷ before_first p xs) []) fails

  -- what passes nowhere stands before the first
  pub before_first_onto : (front xs : List A) → All Fails front → before_first p (front ++ xs) ≡ front ++ before_first p xs
  before_first_onto [] xs fails = refl
  before_first_onto (x ∷ front) xs fails =
      before_first-no x (front ++ xs) (All-head Fails x front fails)
      ∙ ap (λ l. x ∷ l) (before_first_onto front xs (All-tail Fails x front fails))

  -- what `position` gives, or the length
  pub unwrap_or_position : (xs : List A) (r : Option ℕ) → r ≡ cond (ltb (position_or_len p xs) (length xs)) (Some (position_or_len p xs)) None
      → unwrap_or r (length xs) ≡ position_or_len p xs
  unwrap_or_position xs r first = rw first (within_or_end (position_or_len p xs) (length xs) (prefix_len-le-length (λ x. not (p x)) xs))

  -- nothing, or what passes stands first
  abbrev pub IsAtPass : List A → Type 0
  IsAtPass [] = Unit {0}
  IsAtPass (x ∷ xs) = p x ≡ true

  pub drop_first-yes : (x : A) (xs : List A) → p x ≡ true → drop (position_or_len p (x ∷ xs)) (x ∷ xs) ≡ x ∷ xs
  drop_first-yes x xs passes = ap (λ b. drop (cond (not b) (1 + position_or_len p xs) 0) (x ∷ xs)) passes

  pub drop_first-no : (x : A) (xs : List A) → p x ≡ false → drop (position_or_len p (x ∷ xs)) (x ∷ xs) ≡ drop (position_or_len p xs) xs
  drop_first-no x xs fails =
      ap (λ b. drop (cond (not b) (1 + position_or_len p xs) 0) (x ∷ xs)) fails
      ∙ ap (λ k. drop k (x ∷ xs)) (one-add (position_or_len p xs))

  -- at the first that passes
  pub at_first : (xs : List A) → IsAtPass (drop (position_or_len p xs) xs)
  at_first [] = tt
  at_first (x ∷ xs) =
      elim (p x) as (λ b. p x ≡ b → IsAtPass (drop (position_or_len p (x ∷ xs)) (x ∷ xs))) [
        | true ↦ λ passes. subst IsAtPass (sym (drop_first-yes x xs passes)) passes
        | false ↦ λ fails. subst IsAtPass (sym (drop_first-no x xs fails)) (at_first xs)
      ] refl

  pub All-before_first : (xs : List A) → All Fails (before_first p xs)
  All-before_first [] = All-nil Fails
  All-before_first (x ∷ xs) =
      elim (p x) as (λ b. p x ≡ b → All Fails (before_first p (x ∷ xs))) [
        | true ↦ λ passes. All-same Fails (before_first p (x ∷ xs)) [] (before_first-yes x xs passes) (All-nil Fails)
        | false ↦ λ fails. All-same Fails (before_first p (x ∷ xs)) (x ∷ before_first p xs) (before_first-no x xs fails)
            (All-cons Fails x (before_first p xs) fails (All-before_first xs))
      ] refl
