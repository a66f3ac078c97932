-- Looks after looks.
use Rattle.std.proofs.Common.{◌≡◌, ℕ, refl, ◌∙◌, ap}
use Rattle.tierra_model.specs.Look.{Look, Answer, LookAt, ◌>>=◌, pass, Passes}

pub pass-bind : {S A B : Type 0} (cells : S → ℕ → ℕ) (looked : S → ℕ → S) (t : Look A) (f : A → Look B) (s : S)
    → pass cells looked (t >>= f) s ≡ pass cells looked (f (pass cells looked t s).1) (pass cells looked t s).0
pass-bind cells looked (Answer a) f s = refl
pass-bind cells looked (LookAt p next) f s = pass-bind cells looked (next (cells s p)) f (looked s p)

pub passes-bind : {S A B : Type 0} (cells : S → ℕ → ℕ) (looked : S → ℕ → S) (t : Look A) (f : A → Look B) (s u : S) (a : A)
    → Passes cells looked t s u a → pass cells looked (t >>= f) s ≡ pass cells looked (f a) u
passes-bind {S} {A} cells looked t f s u a e = pass-bind cells looked t f s ∙ ap (λ (r : S × A). pass cells looked (f r.1) r.0) e
