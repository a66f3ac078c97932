-- Trying candidates, one after another.
use Rattle.std.proofs.Common.{◌≡◌, ℕ, Bool, true, false, List, [], ◌∷◌, ◌++◌, refl, sym, ◌∙◌, ap}
use Rattle.std.specs.Prelude.{if◌then◌else◌, Option, Some, None}
use Rattle.tierra_model.specs.Look.{Answer, pass, Passes}
use Rattle.tierra_model.specs.Search.{compare, try_each}
use Rattle.template_search.proofs.Passing.{passes-bind}

module _ {S : Type 0} (cells : S → ℕ → ℕ) (looked : S → ℕ → S) (n : ℕ) (vs : List ℕ) where
  try_next : (p : ℕ) (ps : List ℕ) (s u : S) (b : Bool) → Passes cells looked (compare n vs p) s u b
      → pass cells looked (try_each n vs (p ∷ ps)) s ≡ pass cells looked (if b then Answer (Some p) else try_each n vs ps) u
  unfolding try_each
  try_next p ps s u b e = passes-bind cells looked (compare n vs p) (λ m. if m then Answer (Some p) else try_each n vs ps) s u b e

  -- one candidate alone
  pub one_matches : (p : ℕ) (s u : S) → Passes cells looked (compare n vs p) s u true → Passes cells looked (try_each n vs (p ∷ [])) s u (Some p)
  one_matches p s u e = try_next p [] s u true e

  pub one_fails : (p : ℕ) (s u : S) → Passes cells looked (compare n vs p) s u false → Passes cells looked (try_each n vs (p ∷ [])) s u None
  unfolding try_each
  one_fails p s u e = try_next p [] s u false e

  second : {A B : Type 0} {x y : A × B} → x ≡ y → x.1 ≡ y.1
  second e = ap (λ p. p.1) e

  -- one of the first candidates matches, and so the others are not tried
  pub first_found : (xs ys : List ℕ) (s u : S) (p : ℕ) → Passes cells looked (try_each n vs xs) s u (Some p)
      → Passes cells looked (try_each n vs (xs ++ ys)) s u (Some p)
  unfolding try_each
  first_found [] ys s u p e = (let k : None ≡ Some p = second e in cc)
  first_found (x ∷ xs) ys s u p e = go (pass cells looked (compare n vs x) s).1 (pass cells looked (compare n vs x) s).0 refl e (first_found xs ys)
    where
      go : (b : Bool) (w : S) → pass cells looked (compare n vs x) s ≡ (w, b) → Passes cells looked (try_each n vs (x ∷ xs)) s u (Some p)
          → ((s u : S) (p : ℕ) → Passes cells looked (try_each n vs xs) s u (Some p) → Passes cells looked (try_each n vs (xs ++ ys)) s u (Some p))
          → Passes cells looked (try_each n vs (x ∷ xs ++ ys)) s u (Some p)
      go true w c e ih = try_next x (xs ++ ys) s w true c ∙ sym (try_next x xs s w true c) ∙ e
      go false w c e ih = try_next x (xs ++ ys) s w false c ∙ ih w u p (sym (try_next x xs s w false c) ∙ e)

  -- none of the first candidates matches, and so the others are tried
  pub none_found : (xs ys : List ℕ) (s u : S) → Passes cells looked (try_each n vs xs) s u None
      → pass cells looked (try_each n vs (xs ++ ys)) s ≡ pass cells looked (try_each n vs ys) u
  unfolding try_each
  none_found [] ys s u e = ap (λ (x : S × Option ℕ). pass cells looked (try_each n vs ys) x.0) e
  none_found (x ∷ xs) ys s u e = go (pass cells looked (compare n vs x) s).1 (pass cells looked (compare n vs x) s).0 refl e (none_found xs ys)
    where
      go : (b : Bool) (w : S) → pass cells looked (compare n vs x) s ≡ (w, b) → Passes cells looked (try_each n vs (x ∷ xs)) s u None
          → ((s u : S) → Passes cells looked (try_each n vs xs) s u None
          → pass cells looked (try_each n vs (xs ++ ys)) s ≡ pass cells looked (try_each n vs ys) u)
          → pass cells looked (try_each n vs (x ∷ xs ++ ys)) s ≡ pass cells looked (try_each n vs ys) u
      go true w c e ih = (let k : Some x ≡ None = second (sym (try_next x xs s w true c) ∙ e) in cc)
      go false w c e ih = try_next x (xs ++ ys) s w false c ∙ ih w u (sym (try_next x xs s w false c) ∙ e)

  -- two candidates
  pub first_of_two : (p q r : ℕ) (s u : S) → Passes cells looked (try_each n vs (p ∷ [])) s u (Some r)
      → Passes cells looked (try_each n vs (p ∷ q ∷ [])) s u (Some r)
  first_of_two p q r s u e = first_found (p ∷ []) (q ∷ []) s u r e

  pub second_of_two : (p q : ℕ) (s w u : S) (o : Option ℕ) → Passes cells looked (try_each n vs (p ∷ [])) s w None
      → Passes cells looked (try_each n vs (q ∷ [])) w u o → Passes cells looked (try_each n vs (p ∷ q ∷ [])) s u o
  second_of_two p q s w u o e f = none_found (p ∷ []) (q ∷ []) s w e ∙ f
