-- Where creatures stand in a queue.
use Rattle.std.specs.Prelude.{List, length, slice_index, ℕ, ◌<◌, ◌≡◌, ◌≤◌}
use Rattle.tierra_model.specs.Counting.{times_in}
use Rattle.reaper_queue.specs.Reaper.{ids_of}

-- nobody stands in it twice
abbrev pub IsOnce : List (ℕ × ℕ) → Type 0
IsOnce entries = (id : ℕ) → times_in (ids_of entries) id ≤ 1

-- the creature stands at the place, and at no other
pub record StandsAt (entries : List (ℕ × ℕ)) (id place : ℕ) : Type 0 where
  pub once : IsOnce entries
  pub within : place < length entries
  pub here : slice_index (ids_of entries) place ≡ id
