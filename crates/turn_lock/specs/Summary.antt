-- What the lock reads of a value: its setup, how much was committed, and the entries by caller.
use Rattle.std.specs.Prelude.{◌≡◌, ◌≢◌, ℕ, ◌+◌, ◌-◌, ◌<◌, ◌≤◌, List, ◌∷◌, sum, slice_index}
use Rattle.tierra_model.specs.Setups.{SetupFields}
use Rattle.turn_lock.specs.declared.view.Summary.{Summary}

-- the summary of a value, by what the three functions read of it
abbrev pub summary_of : {T : Type 0} → (T → SetupFields × ℕ) → (T → ℕ) → (T → List ℕ) → T → Summary
summary_of setup committed entries x = record { setup = setup x; committed = committed x; entries = entries x }

-- how many entries are by the caller with this number, from 1 to 64
abbrev pub entries_by : List ℕ → ℕ → ℕ
entries_by entries c = slice_index (0 ∷ entries) c

-- a turn of this caller may change the old value into the new one: it commits only entries of its own
pub record Commits (caller : ℕ) (old new : Summary) : Type 0 where
  pub setup : new.setup ≡ old.setup
  pub committed : old.committed ≤ new.committed
  pub own : entries_by new.entries caller ≡ entries_by old.entries caller + (new.committed - old.committed)
  pub others : (c : ℕ) → 1 ≤ c → c ≤ 64 → c ≢ caller → entries_by new.entries c ≡ entries_by old.entries c

-- since the opening, the value has gained as many entries by each caller as the counts say
pub record HasGrown (opening : Summary) (counts : List ℕ) (x : Summary) : Type 0 where
  pub setup : x.setup ≡ opening.setup
  pub committed : x.committed ≡ opening.committed + sum counts
  pub entries : (i : ℕ) → i < 64 → slice_index x.entries i ≡ slice_index opening.entries i + slice_index counts i
