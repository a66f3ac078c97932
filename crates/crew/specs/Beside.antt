-- Books of a run that is named in types.
use Rattle.std.specs.Prelude.{Option, Some, ℕ, ◌≡◌}
use Rattle.tierra_model.specs.Setups.{SetupFields}
use Rattle.commit_book.specs.Book.{BookFields}

-- the book is of the run of this setup and of n quanta
pub record IsOfRun (s : SetupFields) (n : ℕ) (b : BookFields) : Type 0 where
  pub setup : b.setup ≡ s
  pub quanta : b.quanta ≡ n

-- there is a book, and it is of that run
abbrev pub IsThereOf : SetupFields → ℕ → Option BookFields → Type 0
IsThereOf s n o = (b : BookFields) × (o ≡ Some b) × IsOfRun s n b
