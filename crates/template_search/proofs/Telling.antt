-- What is known of cells in a row tells of candidates.
use Rattle.std.proofs.Common.{◌≡◌, ℕ, zero, suc, ◌+◌, ◌%◌, ◌<◌, ◌≤◌, Bool, true, false, List, [], ◌∷◌, refl, ◌∙◌, ap, arith, get_or, length, subst}
use Rattle.std.specs.Prelude.{None, Some, min, slice_index, ◌==◌}
use Rattle.std.proofs.Math.Nat.{mod-mod}
use Rattle.std.proofs.lemmas.Bool.Decides.{nat_tests}
use Rattle.tierra_model.specs.Look.{pass, Passes}
use Rattle.tierra_model.specs.Search.{compare, try_each}
use Rattle.template_search.specs.Openings.{Agrees, Differs}
use Rattle.template_search.proofs.Comparing.{compare-place, compare_one}
use Rattle.template_search.proofs.Trying.{one_fails, one_matches, second_of_two}

module _ {S : Type 0} (cells : S → ℕ → ℕ) (looked : S → ℕ → S) (n : ℕ) (row : List ℕ) (v : S)
    (held : (p : ℕ) → p < n → slice_index row p < 32 → slice_index row p ≡ cells v p)
    (traceless : (p : ℕ) → p < n → slice_index row p < 32 → looked v p ≡ v) where
  -- m cells are known, and are not all the complement's
  cells_differ : (m : ℕ) (vs : List ℕ) (place : ℕ) → m ≤ length vs → place + m ≤ n → ((j : ℕ) → j < m → slice_index row (place + j) < 32)
      → (((j : ℕ) → j < m → get_or vs j 0 + slice_index row (place + j) ≡ 1) → ⊥) → Passes cells looked (compare n vs place) v v false
  cells_differ zero vs place short within known other = elim (other (λ j h. omega arith)) [ ]
  cells_differ (suc m) [] place short within known other = (let none : ⊥ = omega arith in elim none [ ])
  cells_differ (suc m) (w ∷ ws) place short within known other =
      go (cells_differ m ws (place + 1) (omega arith) (omega arith)
      (λ j h. subst (λ (q : ℕ). slice_index row q < 32) (further j) (known (suc j) (omega arith))))
      (w + cells v place == 1) refl
    where
      first : place + 0 ≡ place
      first = omega arith

      further : (j : ℕ) → place + suc j ≡ place + 1 + j
      further j = omega arith

      here : slice_index row place < 32
      here = subst (λ (q : ℕ). slice_index row q < 32) first (known 0 (omega arith))

      still : looked v place ≡ v
      still = traceless place (omega arith) here

      each : w + slice_index row place ≡ 1 → ((j : ℕ) → j < m → get_or ws j 0 + slice_index row (place + 1 + j) ≡ 1)
          → (j : ℕ) → j < suc m → get_or (w ∷ ws) j 0 + slice_index row (place + j) ≡ 1
      each matches all zero h = rw first matches
      each matches all (suc j) h = rw (further j) (all j (omega arith))

      go : ((((j : ℕ) → j < m → get_or ws j 0 + slice_index row (place + 1 + j) ≡ 1) → ⊥) → Passes cells looked (compare n ws (place + 1)) v v false)
          → (b : Bool) → (w + cells v place == 1) ≡ b → Passes cells looked (compare n (w ∷ ws) place) v v false
      go rest false e = compare_one cells looked n w ws place v false (omega arith) e ∙ ap (λ (s : S). (s, false)) still
      go rest true e =
          let same = held place (omega arith) here in
          let matches : w + slice_index row place ≡ 1 = grind (arith, nat_tests) in
          compare_one cells looked n w ws place v true (omega arith) e
          ∙ ap (λ (s : S). pass cells looked (compare n ws ((place + 1) % n)) s) still
          ∙ ap (λ t. pass cells looked t v) (compare-place n ws ((place + 1) % n) (place + 1) (mod-mod (place + 1) n))
          ∙ rest (λ all. other (each matches all))

  -- the cells are known, and are all the complement's
  cells_agree : (vs : List ℕ) (place : ℕ) → place + length vs ≤ n → ((j : ℕ) → j < length vs → get_or vs j 0 + slice_index row (place + j) ≡ 1)
      → Passes cells looked (compare n vs place) v v true
  unfolding compare
  cells_agree [] place within all = refl
  cells_agree (w ∷ ws) place within all =
      let first : place + 0 ≡ place = omega arith in
      let matches : w + slice_index row place ≡ 1 = subst (λ (q : ℕ). w + slice_index row q ≡ 1) first (all 0 (omega arith)) in
      let here : slice_index row place < 32 = omega (arith, matches) in
      let same = held place (omega arith) here in
      let yes : (w + cells v place == 1) ≡ true = grind (arith, nat_tests) in
      let rest : Passes cells looked (compare n ws (place + 1)) v v true =
      cells_agree ws (place + 1) (omega arith)
      (λ j h. (let further : place + suc j ≡ place + 1 + j = omega arith in
      subst (λ (q : ℕ). get_or ws j 0 + slice_index row q ≡ 1) further (all (suc j) (omega arith)))) in
      compare_one cells looked n w ws place v true (omega arith) yes
      ∙ ap (λ (s : S). pass cells looked (compare n ws ((place + 1) % n)) s) (traceless place (omega arith) here)
      ∙ ap (λ t. pass cells looked t v) (compare-place n ws ((place + 1) % n) (place + 1) (mod-mod (place + 1) n))
      ∙ rest

  module _ (vs : List ℕ) where
    pub candidate_agrees : (place : ℕ) → place + 8 ≤ n → length vs ≤ 8 → Agrees vs row place → Passes cells looked (try_each n vs (place ∷ [])) v v (Some place)
    candidate_agrees place near short all = one_matches cells looked n vs place v v (cells_agree vs place (omega arith) (λ j h. all j (omega arith)))

    pub candidate_differs : (place : ℕ) → place + 8 ≤ n → Differs vs row place → Passes cells looked (try_each n vs (place ∷ [])) v v None
    candidate_differs place near d =
        one_fails cells looked n vs place v v (cells_differ (min 8 (length vs)) vs place (omega arith) (omega arith) d.known d.other)

    pub candidates_differ : (a b : ℕ) → a + 8 ≤ n → b + 8 ≤ n → Differs vs row a → Differs vs row b → Passes cells looked (try_each n vs (a ∷ b ∷ [])) v v None
    candidates_differ a b near_a near_b d e = second_of_two cells looked n vs a b v v v None (candidate_differs a near_a d) (candidate_differs b near_b e)
