-- The seats of the workers and of their observer, and what it has seen.
use Rattle.std.specs.Prelude.{All, IfSome, List, None, Some, is_some, length, true, ℕ, ◌*◌, ◌+◌, ◌≡◌, ◌<◌, ◌≤◌}
use Rattle.tierra_model.specs.declared.limits.TheConstants.{MOST_LOOKS, MOST_WORKERS}
use Rattle.tierra_model.specs.Setups.{SetupFields}
use Rattle.turn_lock.specs.Seat.{LockFields, SeatFields, own_of}
use Rattle.crew.specs.Works.{worker_turns}
use Rattle.soup_watch.specs.declared.sight.Sight.{Sight}
use Rattle.soup_watch.specs.declared.waiting.TheConstants.{MOST_TURNS}
use Rattle.soup_watch.specs.declared.watching.Watched.{Watched}
use Rattle.soup_watch.specs.Seeing.{last_of}
use Rattle.soup_watch.specs.Watching.{IsSightOf}

-- how many turns an observer takes at most
abbrev pub observer_turns : ℕ
observer_turns = MOST_LOOKS * (MOST_TURNS + 1)

-- the seat of the observer, who is this caller, after its last turn
pub record HasLooked (at : LockFields) (observer : ℕ) (seat : SeatFields) : Type 0 where
  pub lock : seat.lock ≡ at
  pub last : seat.last_caller ≡ None
  pub turns : seat.turns ≤ observer_turns
  pub speaks : is_some (own_of seat observer) ≡ true

-- how many turns all workers take at most
abbrev pub lead_turns : ℕ
lead_turns = worker_turns * MOST_WORKERS

-- the seat of worker 1, joined with those of all callers before the observer, after `most` turns at most
pub record IsLead (at : LockFields) (observer most : ℕ) (seat : SeatFields) : Type 0 where
  pub lock : seat.lock ≡ at
  pub last : seat.last_caller ≡ Some observer
  pub turns : seat.turns ≤ most
  pub speaks : (c : ℕ) → 1 ≤ c → c < observer → is_some (own_of seat c) ≡ true

-- `count` sights of the setup's worlds, the last of no later quantum than the observer has seen
pub record HasSeen (setup : SetupFields) (count seen : ℕ) (sights : List Sight) : Type 0 where
  pub count_is : length sights ≡ count
  pub each : All (IsSightOf setup) sights
  pub last : IfSome (last_of sights) (λ s. s.quanta ≤ seen)

-- the observer has looked `looks` times, and the workers have ended
pub record IsWatched (setup : SetupFields) (at : LockFields) (observer looks : ℕ) (w : Watched) : Type 0 where
  pub lead : IsLead at observer lead_turns w.lead
  pub looked : HasLooked at observer w.observer
  pub seen : HasSeen setup looks w.observer.seen w.sights.sights
  pub room : 0 < w.sights.spare
