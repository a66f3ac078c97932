-- The yard of a job, which is copied when it changes.
use Rattle.std.specs.Prelude.{List, ℕ}
use Rattle.tierra_model.specs.declared.creatures.Standing.{Standing}

-- the standings as they are now, and how many more need no memory
pub record YardFields : Type 0 where
  pub items : List Standing
  pub room : ℕ
