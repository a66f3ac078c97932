-- Caller 1 commits quanta one after another, until the work pauses.
use Rattle.std.proofs.Common.{◌≡◌, ℕ, zero, suc, ◌+◌, ◌-◌, ◌<◌, sym, ◌∙◌, ap, subst, arith, inl, inr}
use mathlib.Core.Logic.{dite}
use native.Mathlib.Decide.{ℕ_discrete}
use Rattle.std.proofs.lemmas.Bool.{cases_lt}
use Rattle.commit_book.specs.Alone.{Pauses, WorksOn}
use Rattle.commit_book.specs.Book.{BookFields, after_commits, next_steps, steps_of, with_next}

-- the book x came of b, and the work did not pause before
pub record IsWorking (kept last : ℕ) (b x : BookFields) (t u : ℕ) : Type 0 where
  pub done : ℕ
  pub book : x ≡ after_commits 1 done b
  pub steps : u ≡ t + steps_of 1 done b
  pub before : (k : ℕ) → k < done → Pauses kept last (after_commits 1 k b) → ⊥

pub starts : (kept last : ℕ) (b x : BookFields) (t u : ℕ) → x ≡ b → u ≡ t → IsWorking kept last b x t u
starts kept last b x t u is same = record {
  done = 0;
  book = is;
  steps = omega (arith, same);
  before = λ k less. absurd (omega (arith, less));
}

-- one quantum more
pub goes_on : (kept last : ℕ) (b x y : BookFields) (t u v : ℕ) → IsWorking kept last b x t u → (Pauses kept last x → ⊥) → y ≡ with_next 1 x
    → v ≡ u + next_steps x
    → IsWorking kept last b y t v
goes_on kept last b x y t u v w on next ticks = record {
  done = suc w.done;
  book = next ∙ ap (with_next 1) w.book;
  steps = omega (arith, w.steps, ticks, ap next_steps w.book);
  before = λ k less. dite (ℕ_discrete k w.done)
      (λ e. subst (λ (z : BookFields). Pauses kept last z → ⊥) (w.book ∙ ap (λ (n : ℕ). after_commits 1 n b) (sym e)) on)
      (λ ne. w.before k (omega (arith, less, ne)));
}

-- what does not pause now did not pause at first
pub not_at_first : (kept last : ℕ) (b x : BookFields) (t u : ℕ) → IsWorking kept last b x t u → (Pauses kept last x → ⊥) → Pauses kept last b → ⊥
not_at_first kept last b x t u w on p = go w.done w.book w.before
  where
    go : (k : ℕ) → x ≡ after_commits 1 k b → ((j : ℕ) → j < k → Pauses kept last (after_commits 1 j b) → ⊥) → ⊥
    go zero is before = on (subst (Pauses kept last) (sym is) p)
    go (suc k) is before = before 0 (omega arith) p

pub pauses_here : (kept last : ℕ) (b x : BookFields) (t u : ℕ) → IsWorking kept last b x t u → Pauses kept last x → WorksOn kept last b x t u
pauses_here kept last b x t u w h = record { done = w.done; book = w.book; steps = w.steps; pauses = h; least = w.before }

-- ---- one stretch after another

commits-add : (by m n : ℕ) (b : BookFields) → after_commits by (m + n) b ≡ after_commits by n (after_commits by m b)
commits-add by m zero b = let e : m + 0 ≡ m = omega arith in ap (λ (k : ℕ). after_commits by k b) e
commits-add by m (suc n) b =
    let e : m + suc n ≡ suc (m + n) = omega arith in
    ap (λ (k : ℕ). after_commits by k b) e ∙ ap (with_next by) (commits-add by m n b)

steps-add : (by m n : ℕ) (b : BookFields) → steps_of by (m + n) b ≡ steps_of by m b + steps_of by n (after_commits by m b)
steps-add by m zero b = let e : m + 0 ≡ m = omega arith in omega (arith, ap (λ (k : ℕ). steps_of by k b) e)
steps-add by m (suc n) b =
    let e : m + suc n ≡ suc (m + n) = omega arith in
    omega (arith, ap (λ (k : ℕ). steps_of by k b) e, steps-add by m n b, ap next_steps (commits-add by m n b))

pub works_then : (kept last : ℕ) (b x y : BookFields) (t u v : ℕ) → IsWorking kept last b x t u → WorksOn kept last x y u v → WorksOn kept last b y t v
works_then kept last b x y t u v w o = record {
  done = w.done + o.done;
  book = o.book ∙ ap (after_commits 1 o.done) w.book ∙ sym (commits-add 1 w.done o.done b);
  steps = omega (arith, w.steps, o.steps, steps-add 1 w.done o.done b, ap (steps_of 1 o.done) w.book);
  pauses = o.pauses;
  least = λ k less. elim (cases_lt k w.done) [
    | inl sooner ↦ w.before k sooner
    | inr later ↦
        let e : k ≡ w.done + (k - w.done) = omega (arith, later) in
        subst (λ (z : BookFields). Pauses kept last z → ⊥)
        (ap (after_commits 1 (k - w.done)) w.book ∙ sym (commits-add 1 w.done (k - w.done) b) ∙ ap (λ (n : ℕ). after_commits 1 n b) (sym e))
        (o.least (k - w.done) (omega (arith, less, later)))
  ];
}
