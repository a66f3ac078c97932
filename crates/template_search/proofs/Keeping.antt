-- Looks change no cell.
use Rattle.std.proofs.Common.{◌≡◌, ℕ, List, refl, sym, ◌∙◌, ap}
use Rattle.std.specs.Prelude.{Option, None, find}
use Rattle.tierra_model.specs.Look.{Answer, Look, LookAt, answer, pass, Passes}
use Rattle.tierra_model.specs.Search.{is_complement, try_each}
use Rattle.tierra_model.proofs.WalkFinds.{try_each-answer}

module _ {S : Type 0} (cells : S → ℕ → ℕ) (looked : S → ℕ → S)
    (keeps : (v : S) (p q : ℕ) → cells (looked v p) q ≡ cells v q) where
  pass-cells : {A : Type 0} (t : Look A) (v : S) → cells (pass cells looked t v).0 ≡ cells v
  pass-cells (Answer a) v = refl
  pass-cells (LookAt p next) v = pass-cells (next (cells v p)) (looked v p) ∙ (λ i q. keeps v p q i)

  pass-answer : {A : Type 0} (t : Look A) (v : S) → (pass cells looked t v).1 ≡ answer t (cells v)
  pass-answer (Answer a) v = refl
  pass-answer (LookAt p next) v =
      pass-answer (next (cells v p)) (looked v p) ∙ ap (answer (next (cells v p))) (λ i q. keeps v p q i)

  -- candidates that were tried in vain are no complements in the cells that are left
  pub none_is_left : (n : ℕ) (vs ps : List ℕ) (s u : S) → Passes cells looked (try_each n vs ps) s u None
      → find (is_complement n (cells u) vs) ps ≡ None
  none_is_left n vs ps s u e =
      let same : cells u ≡ cells s =
      ap (λ (r : S × Option ℕ). cells r.0) (sym e) ∙ pass-cells (try_each n vs ps) s in
      ap (λ (c : ℕ → ℕ). find (is_complement n c vs) ps) same
      ∙ sym (try_each-answer n (cells s) vs ps)
      ∙ sym (pass-answer (try_each n vs ps) s)
      ∙ ap (λ (r : S × Option ℕ). r.1) e
