-- A book that worker 1 worked on alone is of the same run, and has committed more.
use Rattle.std.proofs.Common.{◌≡◌, ℕ, zero, suc, ◌+◌, ◌<◌, refl, ◌∙◌, ap, arith, inl, inr}
use Rattle.commit_book.specs.Alone.{WorksOn, last_of, number_saved}
use Rattle.commit_book.specs.Book.{BookFields, after_commits}

record IsLater (k : ℕ) (old new : BookFields) : Type 0 where
  pub setup : new.setup ≡ old.setup
  pub quanta : new.quanta ≡ old.quanta
  pub committed : new.committed ≡ old.committed + k

commits-later : (k : ℕ) (b : BookFields) → IsLater k b (after_commits 1 k b)
commits-later zero b = record { setup = refl; quanta = refl; committed = omega arith }
commits-later (suc k) b =
    let r = commits-later k b in
    record { setup = r.setup; quanta = r.quanta; committed = omega (arith, r.committed) }

pub record IsWorked (old new : BookFields) : Type 0 where
  pub setup : new.setup ≡ old.setup
  pub quanta : new.quanta ≡ old.quanta
  pub more : old.committed < old.quanta → old.committed < new.committed

-- it does not pause before it begins
some_done : (most : ℕ) (old new : BookFields) (t u : ℕ) → 0 < most → WorksOn (number_saved old) (last_of most old) old new t u
    → old.committed < old.quanta → old.committed < new.committed
some_done most old new t u some w left = elim w.pauses [
  | inl all ↦ omega (arith, some, left, all)
  | inr saved ↦ go w.done w.book saved
]
  where
    go : (k : ℕ) → new ≡ after_commits 1 k old → number_saved old < number_saved new → old.committed < new.committed
    go zero is h = absurd (let n : ⊥ = omega (arith, h, ap number_saved is) in n)
    go (suc k) is h = omega (arith, ap (λ (b : BookFields). b.committed) is, (commits-later (suc k) old).committed)

pub worked : (most : ℕ) (old new : BookFields) (t u : ℕ) → 0 < most → WorksOn (number_saved old) (last_of most old) old new t u
    → IsWorked old new
worked most old new t u some w =
    let l = commits-later w.done old in
    record {
      setup = ap (λ (b : BookFields). b.setup) w.book ∙ l.setup;
      quanta = ap (λ (b : BookFields). b.quanta) w.book ∙ l.quanta;
      more = some_done most old new t u some w;
    }
