-- What several calls of a book in one turn may change together.
use Rattle.std.proofs.Common.{◌∙◌, refl, arith, ℕ}
use Rattle.turn_lock.specs.declared.view.Summary.{Summary}
use Rattle.turn_lock.specs.Summary.{Commits}

pub commits_none : (caller : ℕ) (b : Summary) → Commits caller b b
commits_none caller b = record {
  setup = refl;
  committed = omega arith;
  own = omega arith;
  others = λ c least most other. refl;
}

pub commits_then : (caller : ℕ) (a b d : Summary) → Commits caller a b → Commits caller b d → Commits caller a d
commits_then caller a b d first second = record {
  setup = second.setup ∙ first.setup;
  committed = omega (arith, first.committed, second.committed);
  own = omega (arith, first.own, second.own, first.committed, second.committed);
  others = λ c least most other. second.others c least most other ∙ first.others c least most other;
}
