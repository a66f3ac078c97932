-- What a replay needs, and when all of it is there.
use Rattle.std.specs.Prelude.{List, None, Option, Some, [], if◌then◌else◌, length, slice_range, slice_set, true, ℕ}
use Rattle.std.specs.Prelude.{◌++◌, ◌+◌, ◌-◌, ◌<◌, ◌^◌, ◌∷◌, ◌≡◌, ◌≤◌}
use Rattle.tierra_model.specs.declared.creatures.Block.{Block}
use Rattle.tierra_model.specs.declared.creatures.Creature.{Creature}
use Rattle.tierra_model.specs.declared.events.Event.{Event}
use Rattle.tierra_model.specs.declared.events.Event.TheVariants as event
use Rattle.tierra_model.specs.Counting.{sum_of}
use Rattle.tierra_model.specs.Blocks.{is_in}
use Rattle.tierra_model.specs.World.{World, front}
use Rattle.tierra_model.specs.Events.{apply_event}
use Rattle.tierra_model.specs.Replay.{EventsFit}
use Rattle.tierra_model.specs.SceneRun.{births_of}
use Rattle.world_core.specs.Running.{WorldFields, can_be_set}

-- what a prepared value has: the events, the record after them, and the codes of the newborns in the order of birth
pub record PreparedFields : Type 0 where
  pub events : List Event
  pub after : Creature
  pub codes : List (List ℕ)

-- the code of the daughter block, where one is held
abbrev pub daughter_codes : Option Block → List ℕ → List (List ℕ)
daughter_codes None soup = []
daughter_codes (Some b) soup = slice_range soup b.at (b.at + b.size) ∷ []

-- the code of the creature that is born in the event, if one is
abbrev pub code_at : Event → Option Block → List ℕ → List (List ℕ)
code_at (event.Divide ran moved) held soup = daughter_codes held soup
code_at _ held soup = []

abbrev pub code_born : World → Event → List (List ℕ)
code_born w e = code_at e (front w).daughter w.soup

-- the codes of all creatures born in the events, in order
abbrev pub codes_born : World → List Event → List (List ℕ)
codes_born w [] = []
codes_born w (e ∷ es) = code_born w e ++ codes_born (apply_event w e) es

-- the cells after an event, and after events one after another
abbrev pub with_write : Event → List ℕ → List ℕ
with_write (event.Write at value) soup = slice_set soup at value
with_write _ soup = soup

abbrev pub with_writes : List Event → List ℕ → List ℕ
with_writes [] soup = soup
with_writes (e ∷ es) soup = with_writes es (with_write e soup)

-- the code of a block after an event
abbrev pub written_into : Block → Event → List ℕ → List ℕ
written_into b (event.Write at value) code = if is_in b at then slice_set code (at - b.at) value else code
written_into b _ code = code

-- the cell that an event writes is one of n
abbrev pub WritesBelow : ℕ → Event → Type 0
WritesBelow n (event.Write at value) = at < n
WritesBelow n _ = Unit {0}

-- the daughter block held after an event, if the one given was held before it
abbrev pub daughter_after : Event → Option Block → Option Block
daughter_after event.GiveUp held = None
daughter_after (event.Mal at size) held = Some (record { at = at; size = size })
daughter_after (event.Divide ran moved) held = None
daughter_after _ held = held

-- at most how many blocks an event takes or gives back
abbrev pub blocks_of : Event → ℕ
blocks_of event.GiveUp = 1
blocks_of (event.Mal at size) = 1
blocks_of (event.Reap place) = 2
blocks_of _ = 0

-- the cell that an event writes can be set
abbrev pub CanWrite : WorldFields → Event → Type 0
CanWrite h (event.Write at value) = can_be_set h at ≡ true
CanWrite h _ = Unit {0}

abbrev pub CanWriteAll : WorldFields → List Event → Type 0
CanWriteAll h [] = Unit {0}
CanWriteAll h (e ∷ es) = CanWrite h e × CanWriteAll h es

-- The events can be replayed without memory: there are not too many, the codes are those of the newborns, each cell
-- that the events write can be set, and there is room for the births and the blocks.
pub record HasRoomFor (events : List Event) (codes : List (List ℕ)) (h : WorldFields) : Type 0 where
  pub few : length events < 2 ^ 31
  pub newborns : codes ≡ codes_born h.world events
  pub cells : CanWriteAll h events
  pub births : sum_of births_of events ≤ h.births
  pub blocks : sum_of blocks_of events ≤ h.blocks

-- what is prepared can be applied
pub record IsReady (p : PreparedFields) (h : WorldFields) : Type 0 where
  pub fit : EventsFit p.events p.after h.world
  pub room : HasRoomFor p.events p.codes h
