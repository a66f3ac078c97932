-- The numbers of the genotypes that had enough creatures, found one after another.
use Rattle.std.proofs.Common.{◌≡◌, ◌∙◌, ℕ, zero, suc, ◌+◌, ◌<◌, ◌≤◌, List, [], ◌∷◌, ◌++◌, refl, sym, ap, subst, arith, get_or, length, true, false, inl, inr}
use Rattle.std.specs.Prelude.{nat_le, ◌==◌}
use Rattle.std.proofs.lemmas.Bool.{cases_eq, cases_lt}
use Rattle.std.proofs.lemmas.Bool.Decides.{nat_tests}
use Rattle.tierra_model.specs.Counting.{one_if, times_in}
use Rattle.tierra_model.specs.Sound.{Ordered}
use Rattle.tierra_model.proofs.Owners.{times_in-append}
use Rattle.world_state.specs.declared.fields.StoredGenotype.{StoredGenotype}
use Rattle.world_state.specs.Checks.{no_found}

abbrev pub reaches : List StoredGenotype → ℕ → ℕ → ℕ
reaches stored total k = one_if (nat_le total (get_or stored k no_found).total)

-- the numbers below n that reach the total
pub record Reached (stored : List StoredGenotype) (total n : ℕ) (items : List ℕ) : Type 0 where
  pub order : Ordered 0 items
  pub below : (k : ℕ) → k < n → times_in items k ≡ reaches stored total k
  pub above : (k : ℕ) → n ≤ k → times_in items k ≡ 0

ordered-push : (low n : ℕ) (xs : List ℕ) → low ≤ n → Ordered low xs → ((k : ℕ) → n ≤ k → times_in xs k ≡ 0) → Ordered low (xs ++ n ∷ [])
ordered-push low n [] le o none = (le, tt)
ordered-push low n (x ∷ xs) le o none =
    let lt : x < n = elim (cases_lt x n) [
      | inl lt ↦ lt
      | inr ge ↦ (let no = none x ge in absurd (grind (arith, nat_tests)))
    ] in
    (o.0, ordered-push (x + 1) n xs (omega (arith, lt)) o.1 (λ k m. (let all = none k m in omega (arith, all))))

pub reached-none : (stored : List StoredGenotype) (total : ℕ) → Reached stored total 0 []
reached-none stored total = record { order = tt; below = λ k lt. absurd (omega (arith, lt)); above = λ k le. refl }

one-of : (n k : ℕ) → times_in (n ∷ []) k ≡ one_if (n == k)
one-of n k = omega arith

pub reached-one : (stored : List StoredGenotype) (total n : ℕ) (items : List ℕ) → total ≤ (get_or stored n no_found).total
    → Reached stored total n items → Reached stored total (n + 1) (items ++ n ∷ [])
reached-one stored total n items enough r =
    let is : reaches stored total n ≡ 1 = (let yes' : nat_le total (get_or stored n no_found).total ≡ true = grind (arith, nat_tests) in rw yes' refl) in
    record {
      order = ordered-push 0 n items (omega arith) r.order r.above;
      below = λ k lt. elim (cases_eq n k) [
        | inl same ↦ subst (λ j. times_in (items ++ n ∷ []) j ≡ reaches stored total j) same
            (let more = times_in-append items (n ∷ []) n in let none = r.above n (omega arith) in grind (arith, nat_tests))
        | inr other ↦ (let more = times_in-append items (n ∷ []) k in let old = r.below k (omega (arith, lt, other)) in grind (arith, nat_tests))
      ];
      above = λ k le. (let more = times_in-append items (n ∷ []) k in let none = r.above k (omega (arith, le)) in grind (arith, nat_tests));
    }

pub reached-other : (stored : List StoredGenotype) (total n : ℕ) (items : List ℕ) → (get_or stored n no_found).total < total
    → Reached stored total n items → Reached stored total (n + 1) items
reached-other stored total n items few r =
    let is : reaches stored total n ≡ 0 = (let no' : nat_le total (get_or stored n no_found).total ≡ false = grind (arith, nat_tests) in rw no' refl) in
    record {
      order = r.order;
      below = λ k lt. elim (cases_eq n k) [
        | inl same ↦ subst (λ j. times_in items j ≡ reaches stored total j) same (r.above n (omega arith) ∙ sym is)
        | inr other ↦ r.below k (omega (arith, lt, other))
      ];
      above = λ k le. r.above k (omega (arith, le));
    }

get_or-past : (stored : List StoredGenotype) (k : ℕ) → length stored ≤ k → get_or stored k no_found ≡ no_found
get_or-past [] k le = refl
get_or-past (f ∷ fs) zero le = absurd (omega arith)
get_or-past (f ∷ fs) (suc k) le = get_or-past fs k (omega arith)

pub reached-all : (stored : List StoredGenotype) (total n : ℕ) (items : List ℕ) → 1 ≤ total → length stored ≤ n → Reached stored total n items
    → (k : ℕ) → times_in items k ≡ reaches stored total k
reached-all stored total n items some le r k =
    elim (cases_lt k n) [
      | inl lt ↦ r.below k lt
      | inr past ↦ (let none = r.above k past in
          let gone : (get_or stored k no_found).total ≡ 0 = ap (λ (f : StoredGenotype). f.total) (get_or-past stored k (omega (arith, le, past))) in
          let no' : nat_le total (get_or stored k no_found).total ≡ false = grind (arith, nat_tests) in
          none ∙ sym (ap one_if no'))
    ]

pub at-total : (stored : List StoredGenotype) (k : ℕ) (f : StoredGenotype) → k < length stored → (get_or stored k f).total ≡ (get_or stored k no_found).total
at-total [] k f lt = absurd (omega arith)
at-total (x ∷ xs) zero f lt = refl
at-total (x ∷ xs) (suc k) f lt = at-total xs k f (omega arith)
