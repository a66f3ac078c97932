-- Reading cells one after another: what is done next may depend on what was seen.
use Rattle.std.specs.Prelude.{List, [], ℕ, ◌∷◌, ◌≡◌}

-- Gives an answer, or looks at a cell and goes on with what that cell holds.
pub data Look (A : Type 0) : Type 0 where
  Answer : A → Look A
  LookAt : ℕ → (ℕ → Look A) → Look A

infixl 10 ◌>>=◌
abbrev pub ◌>>=◌ : {A B : Type 0} → Look A → (A → Look B) → Look B
(Answer a) >>= f = f a
(LookAt p next) >>= f = LookAt p (λ v. next v >>= f)

-- a look at one cell
abbrev pub cell : ℕ → Look ℕ
cell p = LookAt p (λ v. Answer v)

-- the answer where cell p holds `cells p`
abbrev pub answer : {A : Type 0} → Look A → (ℕ → ℕ) → A
answer (Answer a) cells = a
answer (LookAt p next) cells = answer (next (cells p)) cells

-- the cells looked at, in order
abbrev pub looks : {A : Type 0} → Look A → (ℕ → ℕ) → List ℕ
looks (Answer a) cells = []
looks (LookAt p next) cells = p ∷ looks (next (cells p)) cells

-- The looks made one after another from state v: the state at the end, and the answer. cells v p is what cell p
-- holds, and looked v p is the state after a look at p.
abbrev pub pass : {S A : Type 0} → (S → ℕ → ℕ) → (S → ℕ → S) → Look A → S → S × A
pass cells looked (Answer a) v = (v, a)
pass cells looked (LookAt p next) v = pass cells looked (next (cells v p)) (looked v p)

-- From v the looks lead to u, and the answer is a.
abbrev pub Passes : {S A : Type 0} → (S → ℕ → ℕ) → (S → ℕ → S) → Look A → S → S → A → Type 0
Passes cells looked t v u a = pass cells looked t v ≡ (u, a)
