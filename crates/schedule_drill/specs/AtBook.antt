-- What always holds of a drill: of its book and its hands.
use Rattle.std.specs.Prelude.{All, None, Option, Some, false, length, ℕ, ◌+◌, ◌≡◌, ◌≤◌}
use Rattle.tierra_model.specs.Findings.{Finding}
use Rattle.commit_book.specs.Book.{BookFields}
use Rattle.commit_book.specs.Offers.{window_end}
use Rattle.schedule_drill.specs.Drill.{DrillFields}

-- what a hand holds is of the book's settings, and not past its window
abbrev pub FitsBook : BookFields → Option Finding → Type 0
FitsBook b None = Unit {0}
FitsBook b (Some f) = (f.settings ≡ b.setup.settings) × (f.quantum ≤ window_end b)

pub record IsAtBook (d : DrillFields) : Type 0 where
  pub four : length d.hands ≡ 4
  pub window : d.book.window ≡ 4
  pub goes_on : d.book.stopped ≡ false
  pub fit : All (FitsBook d.book) d.hands

-- how many answers were counted
abbrev pub answers : DrillFields → ℕ
answers d = d.answered.kept + d.answered.twice + d.answered.late + d.answered.full + d.answered.idle

-- the later book is of the same run
abbrev pub IsOfRun : BookFields → BookFields → Type 0
IsOfRun old new = (new.setup ≡ old.setup) × (new.quanta ≡ old.quanta)
