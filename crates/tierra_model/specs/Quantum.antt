-- A quantum, on a world or on what stands for one.
use Rattle.std.specs.Prelude.{Bool, List, None, Option, Some, false, if◌then◌else◌, length, max, min, slice_index, suc}
use Rattle.std.specs.Prelude.{true, zero, ℕ, ◌%◌, ◌*◌, ◌+◌, ◌/◌, ◌==◌}
use Rattle.tierra_model.specs.declared.events.Act.{Act}
use Rattle.tierra_model.specs.declared.creatures.Creature.{Creature}
use Rattle.tierra_model.specs.declared.events.Event.{Event}
use Rattle.tierra_model.specs.declared.limits.TheConstants.{MOST_SLICE}
use Rattle.tierra_model.specs.declared.parameters.Settings.{Settings}
use Rattle.tierra_model.specs.declared.events.Act.TheVariants as act
use Rattle.tierra_model.specs.declared.events.Event.TheVariants as event
use Rattle.tierra_model.specs.Look.{Look, pass}
use Rattle.tierra_model.specs.Draw.{back_flip, word}
use Rattle.tierra_model.specs.Queue.{number_of_others, place_of_first_other}
use Rattle.tierra_model.specs.Step.{Outcome, flip_bit, step}
use Rattle.tierra_model.specs.World.{World, front, put}
use Rattle.tierra_model.specs.Room.{is_owned, room_for}
use Rattle.tierra_model.specs.Events.{apply_event, turn_end}

-- What a quantum runs on: a world, or a scene that stands for one. S is its state.
pub record Machine (S : Type 0) : Type 0 where
  -- the record of the creature that runs, and the state with another record
  pub front : S → Creature
  pub put : Creature → S → S
  -- what a cell holds, and what a look at it leaves
  pub cell : S → ℕ → ℕ
  pub look : S → ℕ → S
  -- whether a cell is owned, and what asking for free cells leaves
  pub owned : S → ℕ → Bool
  pub ask_free : S → S
  -- the reaper queue, and what asking for it leaves
  pub reaper : S → List ℕ
  pub ask_reaper : S → S
  -- what an event leaves
  pub apply : S → Event → S

-- whether quantum q is disturbed: dist_every, the first argument, divides q and is not 0
abbrev pub is_disturbed : ℕ → ℕ → Bool
is_disturbed zero q = false
is_disturbed (suc n) q = q % suc n == 0

module _ {S : Type 0} (P : Machine S) (s : Settings) where
  -- the looks of a step, one after another
  abbrev pub walk : {A : Type 0} → Look A → S → S × A
  walk = pass P.cell P.look

  -- ---- mal

  -- a daughter block that is held is given up
  abbrev pub give_up : S → S
  give_up x = elim (P.front x).daughter [ None ↦ x | Some b ↦ P.apply x event.GiveUp ]

  -- the block is taken, and the caller makes its good move
  abbrev pub take_block : ℕ → ℕ → S → S
  take_block size at x = P.apply (P.apply x (event.Mal at size)) event.Good

  -- the place of the first creature of the reaper queue other than the caller
  abbrev pub victim : S → Option ℕ
  victim x = place_of_first_other (P.front x).id (P.reaper x)

  -- that creature dies
  abbrev pub reap_at : Option ℕ → S → S
  reap_at None x = x
  reap_at (Some k) x = P.apply x (event.Reap k)

  abbrev pub reap : S → S
  reap x = let y = P.ask_reaper x in reap_at (victim y) y

  -- While there is no room, the first other creature of the reaper queue dies; if there is none, mal errs. left is
  -- how many others the list has: each death takes one away, so at 0 no other is left.
  abbrev pub make_room : ℕ → ℕ → S → S
  make_room size zero x =
      elim (room_for s (P.owned x) size) [ Some at ↦ take_block size at x | None ↦ P.apply (P.ask_reaper x) event.Err ]
  make_room size (suc left) x =
      elim (room_for s (P.owned x) size) [ Some at ↦ take_block size at x | None ↦ make_room size left (reap x) ]

  -- a mal whose request passed: the daughter block is given up, room is made, the block is taken
  abbrev pub mal : ℕ → S → S
  mal size x =
      let y = give_up (P.ask_free x) in
      make_room size (number_of_others (P.front y).id (P.reaper y)) y

  -- ---- one instruction, and a slice of them

  -- What is left to do after a step. At a divide the good move comes first, and the event carries what she ran, this
  -- divide included, and what she moved.
  abbrev pub perform : Act → S → S
  perform act.Plain x = x
  perform (act.Wrote at value) x = P.apply x (event.Write at value)
  perform act.Erred x = P.apply x event.Err
  perform (act.Mal size) x = mal size x
  perform act.Divide x = P.apply (P.apply x event.Good) (event.Divide (P.front x).ran (P.front x).moved)

  -- the record of a step is put in, and its act done
  abbrev pub settle : S × Outcome → S
  settle r = let (x, outcome) = r in let (c, act) = outcome in perform act (P.put c x)

  unfoldable pub instruction : (ℕ → ℕ) → ℕ → S → S
  instruction draw i x = settle (walk (step s draw i (P.front x)) x)

  -- k instructions, from number i on
  unfoldable pub instructions : (ℕ → ℕ) → ℕ → ℕ → S → S
  instructions draw zero i x = x
  instructions draw (suc k) i x = instructions draw k (i + 1) (instruction draw i x)

  -- the background flip of a cell's bit
  abbrev pub flip : Option (ℕ × ℕ) → S → S
  flip None x = x
  flip (Some c) x = P.apply (P.look x c.0) (event.Write c.0 (flip_bit (P.cell x c.0) (Some c.1)))

  -- up to k times, the first creature of the reaper queue other than the one that runs dies
  abbrev pub reap_times : ℕ → S → S
  reap_times zero x = x
  reap_times (suc k) x = elim (victim x) [ None ↦ x | Some place ↦ reap_times k (P.apply x (event.Reap place)) ]

  -- the disturbance, if it is due: dist_percent percent of the living, rounded down, die, but never the creature that
  -- runs (the reaper queue has all the living)
  abbrev pub disturb : Bool → S → S
  disturb false x = x
  disturb true x = let y = P.ask_reaper x in reap_times (length (P.reaper y) * s.dist_percent / 100) y

  -- the background flip, the disturbance, and k instructions of quantum q
  unfoldable pub run : ℕ → ℕ → S → S
  run q k x =
      instructions (word s.seed q) k 0
      (disturb (is_disturbed s.dist_every q) (flip (back_flip s.back_rate (word s.seed q) s.soup_size) x))

-- how many instructions a creature of the size runs in a quantum
abbrev pub slice_of : ℕ → Settings → ℕ
slice_of size s =
    if s.slice_by_size then min MOST_SLICE (max 1 (size * s.slice_num / s.slice_den)) else s.slice_size

-- ---- in a world

-- A world uses its own soup, blocks and lists, and no look is noted.
abbrev pub world_machine : Machine World
world_machine =
    record {
      front = front;
      put = put;
      cell = λ w p. slice_index w.soup p;
      look = λ w p. w;
      owned = λ w p. is_owned w.living p;
      ask_free = λ w. w;
      reaper = λ w. w.reaper;
      ask_reaper = λ w. w;
      apply = apply_event;
    }

-- The next quantum of a world: the slice is fixed when it begins.
unfoldable pub quantum : World → World
quantum w =
    turn_end (run world_machine w.settings (w.quanta + 1) (slice_of (front w).own.size w.settings) w)
