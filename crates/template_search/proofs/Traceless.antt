-- Looks that leave no trace.
use Rattle.std.proofs.Common.{◌≡◌, ℕ, ◌+◌, ◌%◌, ◌<◌, Bool, true, false, cond, List, [], ◌∷◌, refl, ◌∙◌, ap}
use Rattle.std.specs.Prelude.{if◌then◌else◌, Some, find, ◌==◌, ◌&&◌}
use Rattle.std.proofs.Math.Nat.{mod-lt}
use Rattle.tierra_model.specs.Look.{Answer, pass}
use Rattle.tierra_model.specs.Search.{compare, is_complement, try_each}
use Rattle.template_search.proofs.Passing.{passes-bind}

module _ {S : Type 0} (cells : S → ℕ → ℕ) (looked : S → ℕ → S) (n : ℕ) (v : S) (some : 0 < n)
    (traceless : (p : ℕ) → p < n → looked v p ≡ v) where
  compare_traceless : (vs : List ℕ) (p : ℕ)
      → pass cells looked (compare n vs p) v ≡ (v, is_complement n (cells v) vs p)
  unfolding compare is_complement
  compare_traceless [] p = refl
  compare_traceless (w ∷ ws) p =
      ap (λ (s : S). pass cells looked (if w + cells v (p % n) == 1 then compare n ws (p + 1) else Answer false) s)
      (traceless (p % n) (mod-lt p some))
      ∙ go (w + cells v (p % n) == 1) (compare_traceless ws (p + 1))
    where
      go : (b : Bool) → pass cells looked (compare n ws (p + 1)) v ≡ (v, is_complement n (cells v) ws (p + 1))
          → pass cells looked (if b then compare n ws (p + 1) else Answer false) v
          ≡ (v, (b && is_complement n (cells v) ws (p + 1)))
      go true e = e
      go false e = refl

  -- candidates are tried without a trace
  pub try_each_traceless : (vs ps : List ℕ)
      → pass cells looked (try_each n vs ps) v ≡ (v, find (is_complement n (cells v) vs) ps)
  unfolding try_each
  try_each_traceless vs [] = refl
  try_each_traceless vs (p ∷ ps) =
      passes-bind cells looked (compare n vs p) (λ m. if m then Answer (Some p) else try_each n vs ps) v v
      (is_complement n (cells v) vs p) (compare_traceless vs p)
      ∙ go (is_complement n (cells v) vs p) (try_each_traceless vs ps)
    where
      go : (b : Bool) → pass cells looked (try_each n vs ps) v ≡ (v, find (is_complement n (cells v) vs) ps)
          → pass cells looked (if b then Answer (Some p) else try_each n vs ps) v
          ≡ (v, cond b (Some p) (find (is_complement n (cells v) vs) ps))
      go true e = refl
      go false e = e
