-- A book whose quanta caller 1 commits alone.
use Rattle.std.specs.Prelude.{List, None, length, max, min, replicate, ℕ, ◌+◌, ◌<◌, ◌≡◌, ◌≤◌, ◌⊎◌}
use Rattle.tierra_model.specs.declared.history.Entry.{Entry}
use Rattle.tierra_model.specs.Setups.{IsSetup}
use Rattle.tierra_model.specs.World.{World}
use Rattle.commit_book.specs.Book.{BookFields, after_commits, steps_of, world_of}
use Rattle.commit_book.specs.Kept.{IsBook}

-- how many genotypes are saved
abbrev pub number_saved : BookFields → ℕ
number_saved b = length (world_of b).saved

-- how many quanta are committed at the most after a call that commits at most `most`
abbrev pub last_of : ℕ → BookFields → ℕ
last_of most b = min b.quanta (b.committed + most)

-- the work pauses where `last` quanta are committed, or where more than `kept` genotypes are saved
abbrev pub Pauses : (kept last : ℕ) → BookFields → Type 0
Pauses kept last b = (last ≤ b.committed) ⊎ (kept < number_saved b)

-- The new book is the old one after `done` more quanta, the least number after which the work pauses. Caller 1
-- committed them, and the counter went from t to u.
pub record WorksOn (kept last : ℕ) (old new : BookFields) (t u : ℕ) : Type 0 where
  pub done : ℕ
  pub book : new ≡ after_commits 1 done old
  pub steps : u ≡ t + steps_of 1 done old
  pub pauses : Pauses kept last new
  pub least : (k : ℕ) → k < done → Pauses kept last (after_commits 1 k old) → ⊥

-- The book, which has this world and history, can go on in the world itself until `last` quanta are committed: they are
-- no more than its quanta, and it keeps no finding, unless the work pauses at once.
pub record CanRun (kept last : ℕ) (b : BookFields) (w : World) (entries : List Entry) : Type 0 where
  pub setup : IsSetup b.setup
  pub within : last ≤ b.quanta
  pub none : Pauses kept last b ⊎ (b.stash ≡ replicate b.window None)
  pub book : IsBook b w
  pub history : entries ≡ b.history

-- the book after more of its quanta, which left this history
abbrev pub ran_on : BookFields → List Entry → BookFields
ran_on b history = record b { committed = length history; handed = max b.handed (length history); history = history }
