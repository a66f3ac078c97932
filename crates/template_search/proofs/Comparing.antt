-- Comparing a template with cells, one after another.
use Rattle.std.proofs.Common.{◌≡◌, ℕ, suc, ◌+◌, ◌%◌, ◌<◌, ◌≤◌, Bool, true, false, List, [], ◌∷◌, refl, sym, ◌∙◌, ap, arith, drop, drop-cons, get_or, length}
use Rattle.std.proofs.Common.{add-one}
use Rattle.std.specs.Prelude.{if◌then◌else◌, ◌==◌}
use Rattle.std.proofs.Math.Nat.{mod-eq_of_lt, mod-mod}
use Rattle.std.proofs.lemmas.Bool.Decides.{nat_tests}
use Rattle.std.proofs.lemmas.List.{drop_all}
use Rattle.tierra_model.specs.Look.{Answer, LookAt, pass, Passes}
use Rattle.tierra_model.specs.Search.{compare}
use Rattle.template_search.proofs.Modulo.{mod-step}

-- where a comparison begins counts only as a place of the ring
pub compare-place : (n : ℕ) (vs : List ℕ) (p q : ℕ) → p % n ≡ q % n → compare n vs p ≡ compare n vs q
unfolding compare
compare-place n [] p q e = refl
compare-place n (v ∷ vs) p q e =
    let next = compare-place n vs (p + 1) (q + 1) (mod-step n p q e) in
    λ i. LookAt (e i) (λ u. if v + u == 1 then next i else Answer false)

module _ {S : Type 0} (cells : S → ℕ → ℕ) (looked : S → ℕ → S) (n : ℕ) where
  pub compare_one : (v : ℕ) (vs : List ℕ) (place : ℕ) (s : S) (b : Bool) → place < n → (v + cells s place == 1) ≡ b
      → pass cells looked (compare n (v ∷ vs) place) s ≡ pass cells looked (if b then compare n vs ((place + 1) % n) else Answer false) (looked s place)
  unfolding compare
  compare_one v vs place s b h e =
      let there : place % n ≡ place = mod-eq_of_lt h in
      ap (λ (q : ℕ). pass cells looked (if v + cells s q == 1 then compare n vs (place + 1) else Answer false) (looked s q)) there
      ∙ ap (λ (m : Bool). pass cells looked (if m then compare n vs (place + 1) else Answer false) (looked s place)) e
      ∙ ap (λ t. pass cells looked (if b then t else Answer false) (looked s place))
      (compare-place n vs (place + 1) ((place + 1) % n) (sym (mod-mod (place + 1) n)))

  module _ (vs : List ℕ) (start : ℕ) (s0 : S) where
    -- what is left to compare at place i of the template gives what the whole gives
    pub record ComparesOn (i place : ℕ) (s : S) : Type 0 where
      pub same : pass cells looked (compare n (drop i vs) place) s ≡ pass cells looked (compare n vs start) s0

    pub compare_goes_on : (i place next : ℕ) (s u : S) → i < length vs → place < n → next ≡ (place + 1) % n → u ≡ looked s place
        → get_or vs i 0 + cells s place ≡ 1 → ComparesOn i place s → ComparesOn (i + 1) next u
    compare_goes_on i place next s u h p step seen e c =
        let yes : (get_or vs i 0 + cells s place == 1) ≡ true = grind (arith, nat_tests) in
        record {
          same =
              ap (λ (k : ℕ). pass cells looked (compare n (drop k vs) next) u) (add-one i)
              ∙ ap (λ (q : ℕ). pass cells looked (compare n (drop (suc i) vs) q) u) step
              ∙ ap (λ (w : S). pass cells looked (compare n (drop (suc i) vs) ((place + 1) % n)) w) seen
              ∙ sym (compare_one (get_or vs i 0) (drop (suc i) vs) place s true p yes)
              ∙ ap (λ (l : List ℕ). pass cells looked (compare n l place) s) (sym (drop-cons vs i 0 h))
              ∙ c.same;
        }

    pub compare_stops : (i place : ℕ) (s u : S) → i < length vs → place < n → u ≡ looked s place
        → (get_or vs i 0 + cells s place ≡ 1 → ⊥) → ComparesOn i place s → Passes cells looked (compare n vs start) s0 u false
    compare_stops i place s u h p seen e c =
        let no : (get_or vs i 0 + cells s place == 1) ≡ false = grind (arith, nat_tests) in
        sym c.same
        ∙ ap (λ (l : List ℕ). pass cells looked (compare n l place) s) (drop-cons vs i 0 h)
        ∙ compare_one (get_or vs i 0) (drop (suc i) vs) place s false p no
        ∙ ap (λ (w : S). (w, false)) (sym seen)

    pub compare_ends : (i place : ℕ) (s : S) → length vs ≤ i → ComparesOn i place s → Passes cells looked (compare n vs start) s0 s true
    unfolding compare
    compare_ends i place s h c =
        sym c.same ∙ ap (λ (l : List ℕ). pass cells looked (compare n l place) s) (drop_all i vs h)

pub ruleset comparing = (compare_goes_on, compare_stops, compare_ends)
