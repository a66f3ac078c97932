-- The quanta that are held are the multiples of a number, one after another.
use Rattle.std.proofs.Common.{◌≡◌, ◌∙◌, refl, sym, ap, subst, arith, ℕ, zero, suc, ◌+◌, ◌-◌, ◌*◌, ◌/◌, ◌%◌, ◌<◌, ◌≤◌, Bool, true, false, cond, List, [], ◌∷◌}
use Rattle.std.proofs.Common.{◌++◌, append-nil, length, map, inl, inr, Some, add-one}
use Rattle.std.proofs.lemmas.Bool.{cases_lt}
use Rattle.std.proofs.lemmas.Bool.Decides.{nat_tests}
use Rattle.std.proofs.lemmas.List.FromFn.{filter_of_map_range_with_len_more, get_or-map-range_with_len, length-map-range_with_len, map-range_with_len_more}
use Rattle.std.proofs.Math.Nat.{div-le_of_le-mul, div-mul-le_self, le-div_iff_mul-le, lt-mul-div-succ, mod-add-div'}
use Rattle.std.specs.List.{range_with_len}
use Rattle.std.specs.Prelude.{filter, slice_get}
use Rattle.std.proofs.lemmas.Option.{slice_get-get_or}
use Rattle.soup_hold.specs.Text.{held_quanta, is_held}

-- ---- how often a number divides

pub mono : (every m n : ℕ) → 0 < every → m ≤ n → m / every ≤ n / every
mono every m n some le = (le-div_iff_mul-le some).1 (omega (arith, div-mul-le_self m every, le))

-- at a multiple once more
next-multiple : (every n : ℕ) → 0 < every → (n + 1) % every ≡ 0 → (n + 1) / every ≡ n / every + 1
next-multiple every n some none =
    let most : (n + 1) / every ≤ n / every + 1 = div-le_of_le-mul every (omega (arith, lt-mul-div-succ n some)) in
    let least : n / every < (n + 1) / every = elim (cases_lt (n / every) ((n + 1) / every)) [
      | inl lt ↦ lt
      | inr le ↦ absurd (omega (arith, (le-div_iff_mul-le some).0 le, mod-add-div' (n + 1) every, none))
    ] in
    omega (arith, most, least)

-- and elsewhere not
no-multiple : (every n : ℕ) → 0 < every → 0 < (n + 1) % every → (n + 1) / every ≡ n / every
no-multiple every n some rest =
    let most : (n + 1) / every ≤ n / every = (le-div_iff_mul-le some).1 (omega (arith, mod-add-div' (n + 1) every, rest)) in
    omega (arith, most, mono every n (n + 1) some (omega arith))

-- ---- the list

-- the multiples with these numbers
abbrev multiples : ℕ → ℕ → ℕ → List ℕ
multiples every first count = map (λ k. k * every) (range_with_len first count)

abbrev pub first_number : ℕ → ℕ → ℕ
first_number every m = m / every + 1

abbrev pub count_of : ℕ → ℕ → ℕ → ℕ
count_of every m n = n / every - m / every

module _ (every m : ℕ) (some : 0 < every) where
  abbrev up_to : ℕ → List ℕ
  up_to n = multiples every (first_number every m) (count_of every m n)

  more : (n : ℕ) → up_to (n + 1) ≡ up_to n ++ cond (is_held every m (n + 1)) ((n + 1) ∷ []) []
  more n = elim (cases_lt m (n + 1)) [
    | inl behind ↦ elim (cases_lt 0 ((n + 1) % every)) [
      | inl rest ↦
          let same : count_of every m (n + 1) ≡ count_of every m n = ap (λ (d : ℕ). d - m / every) (no-multiple every n some rest) in
          let test : is_held every m (n + 1) ≡ false = grind (arith, nat_tests, rest) in
          ap (multiples every (first_number every m)) same ∙ sym (append-nil (up_to n)) ∙ ap (λ (b : Bool). up_to n ++ cond b ((n + 1) ∷ []) []) (sym test)
      | inr none ↦
          let divides : (n + 1) % every ≡ 0 = omega (arith, none) in
          let one = next-multiple every n some divides in
          let low : m / every ≤ n / every = mono every m n some (omega (arith, behind)) in
          let count : count_of every m (n + 1) ≡ count_of every m n + 1 = omega (arith, one, low) in
          let number : (n + 1) / every * every ≡ n + 1 = omega (arith, mod-add-div' (n + 1) every, divides) in
          let place : first_number every m + count_of every m n ≡ (n + 1) / every = omega (arith, one, low) in
          let test : is_held every m (n + 1) ≡ true = grind (arith, nat_tests, behind, divides) in
          ap (multiples every (first_number every m)) count
          ∙ map-range_with_len_more (λ k. k * every) (first_number every m) (count_of every m n) ((n + 1) / every) place
          ∙ ap (λ (q : ℕ). up_to n ++ q ∷ []) number
          ∙ ap (λ (b : Bool). up_to n ++ cond b ((n + 1) ∷ []) []) (sym test)
    ]
    | inr before ↦
        let last : (n + 1) / every ≤ m / every = mono every (n + 1) m some before in
        let this : n / every ≤ m / every = mono every n m some (omega (arith, before)) in
        let same : count_of every m (n + 1) ≡ count_of every m n = omega (arith, last, this) in
        let test : is_held every m (n + 1) ≡ false = grind (arith, nat_tests, before) in
        ap (multiples every (first_number every m)) same ∙ sym (append-nil (up_to n)) ∙ ap (λ (b : Bool). up_to n ++ cond b ((n + 1) ∷ []) []) (sym test)
  ]

  map-same : (xs : List ℕ) → map (λ k. k) xs ≡ xs
  map-same [] = refl
  map-same (x ∷ xs) = ap (λ (l : List ℕ). x ∷ l) (map-same xs)

  filter-more : (p : ℕ → Bool) (n : ℕ) → filter p (range_with_len 0 (n + 1)) ≡ filter p (range_with_len 0 n) ++ cond (p n) (n ∷ []) []
  filter-more p n =
      ap (filter p) (sym (map-same (range_with_len 0 (n + 1))))
      ∙ filter_of_map_range_with_len_more p (λ k. k) 0 n n (omega arith)
      ∙ ap (λ (l : List ℕ). filter p l ++ cond (p n) (n ∷ []) []) (map-same (range_with_len 0 n))

  none-held : up_to 0 ≡ []
  none-held =
      let none : count_of every m 0 ≡ 0 = omega (arith, mono every 0 m some (omega arith)) in
      ap (multiples every (first_number every m)) none

  next-held : (n : ℕ) → held_quanta every m n ≡ up_to n → held_quanta every m (n + 1) ≡ up_to (n + 1)
  unfolding held_quanta
  next-held n is =
      filter-more (is_held every m) (n + 1)
      ∙ ap (λ (l : List ℕ). l ++ cond (is_held every m (n + 1)) ((n + 1) ∷ []) []) is
      ∙ sym (more n)

  first-held : held_quanta every m 0 ≡ up_to 0
  unfolding held_quanta
  first-held =
      let test : is_held every m 0 ≡ false = grind (arith, nat_tests) in
      filter-more (is_held every m) 0 ∙ ap (λ (b : Bool). cond b (0 ∷ []) []) test ∙ sym none-held

  pub held_quanta-multiples : (n : ℕ) → held_quanta every m n ≡ up_to n
  held_quanta-multiples zero = first-held
  held_quanta-multiples (suc n) =
      subst (λ (k : ℕ). held_quanta every m k ≡ up_to k) (add-one n) (next-held n (held_quanta-multiples n))

  pub length-held : (n : ℕ) → length (held_quanta every m n) ≡ count_of every m n
  length-held n =
      ap length (held_quanta-multiples n) ∙ length-map-range_with_len (λ k. k * every) (first_number every m) (count_of every m n)

  pub held-at : (n i k : ℕ) → i < count_of every m n → first_number every m + i ≡ k
      → slice_get (held_quanta every m n) i ≡ Some (k * every)
  held-at n i k within place =
      ap (λ (l : List ℕ). slice_get l i) (held_quanta-multiples n)
      ∙ slice_get-get_or (up_to n) i 0 (omega (arith, within, length-map-range_with_len (λ k. k * every) (first_number every m) (count_of every m n)))
      ∙ ap Some (get_or-map-range_with_len (λ k. k * every) (first_number every m) (count_of every m n) i k 0 within place)
