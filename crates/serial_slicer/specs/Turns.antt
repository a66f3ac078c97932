-- A turn: a world during a quantum, and the record of the creature that runs, which is kept apart from it.
use Rattle.std.specs.Prelude.{None, Option, Some, length, ℕ, ◌+◌, ◌<◌, ◌≡◌}
use Rattle.tierra_model.specs.declared.limits.TheConstants.{COUNT_END, MOST_QUANTA}
use Rattle.tierra_model.specs.declared.creatures.Block.{Block}
use Rattle.tierra_model.specs.declared.creatures.Creature.{Creature}
use Rattle.tierra_model.specs.declared.events.Event.{Event}
use Rattle.tierra_model.specs.declared.events.Event.TheVariants as event
use Rattle.tierra_model.specs.declared.parameters.Settings.{Settings}
use Rattle.tierra_model.specs.Events.{apply_event}
use Rattle.tierra_model.specs.World.{World, front}
use Rattle.tierra_model.proofs.Shares.{Shares}
use Rattle.tierra_model.proofs.WithinQuantum.{WithinQuantum}
use Rattle.world_core.specs.Running.{AllReady, WorldFields}

-- what contracts see: the world, and the blocks in which cells may be set
pub record SoleFields : Type 0 where
  pub world : World
  pub own : Block
  pub daughter : Option Block

-- all cells can be set
pub record IsSole (h : WorldFields) : Type 0 where
  pub size : length h.world.soup ≡ h.world.settings.soup_size
  pub ready : AllReady h

-- the daughter block after an event of the creature that runs
abbrev pub daughter_after : Event → Option Block → Option Block
daughter_after event.GiveUp d = None
daughter_after (event.Mal at size) d = Some (record { at = at; size = size })
daughter_after (event.Divide ran moved) d = None
daughter_after _ d = d

-- the world after an event, and the blocks in which cells may then be set
abbrev pub sole_after : Event → SoleFields → SoleFields
sole_after e v = record { world = apply_event v.world e; own = v.own; daughter = daughter_after e v.daughter }

-- c is the record of the creature at the front, whose turn it is. It may differ in its registers and counts from the
-- record in the world; cells may be set in its blocks.
pub record IsTurn (c : Creature) (v : SoleFields) : Type 0 where
  pub shares : Shares (front v.world) c
  pub own : v.own ≡ c.own
  pub daughter : v.daughter ≡ c.daughter

-- The world is within the quantum that runs: it satisfies what every event preserves, and each count can grow by n.
pub record InQuantum (w : World) (n : ℕ) : Type 0 where
  pub settings : Settings
  pub errors : ℕ
  pub copies : ℕ
  pub births : ℕ
  pub size : ℕ
  pub quantum : ℕ
  pub within : WithinQuantum settings errors copies births size quantum w
  pub few_errors : errors + n < COUNT_END
  pub few_births : births + n < COUNT_END
  pub few_quanta : quantum < MOST_QUANTA + 1

-- The record has its places in bounds, and each of its counts can grow by n.
pub record InTurn (size : ℕ) (c : Creature) (n : ℕ) : Type 0 where
  pub ip : c.ip < size
  pub sp : c.sp < 10
  pub moved : c.moved + n < COUNT_END
  pub ran : c.ran + n < COUNT_END

-- n more events can happen in the turn
pub record IsReady (c : Creature) (v : SoleFields) (n : ℕ) : Type 0 where
  pub turn : IsTurn c v
  pub world : InQuantum v.world n
  pub record_in : InTurn v.world.settings.soup_size c n
