-- Events done in order on a world, and when they fit it.
use Rattle.std.specs.Prelude.{IsSome, List, None, [], false, length, slice_index, true, ℕ, ◌<◌, ◌∷◌, ◌≡◌, ◌≢◌, ◌≤◌}
use Rattle.tierra_model.specs.declared.creatures.Creature.{Creature}
use Rattle.tierra_model.specs.declared.events.Event.{Event}
use Rattle.tierra_model.specs.declared.events.Event.TheVariants as event
use Rattle.tierra_model.specs.Ranges.{IsBlock}
use Rattle.tierra_model.specs.Blocks.{is_in}
use Rattle.tierra_model.specs.World.{World, front, put}
use Rattle.tierra_model.specs.Room.{is_owned}
use Rattle.tierra_model.specs.Sound.{IsSound}
use Rattle.tierra_model.specs.Events.{apply_event, turn_end}

abbrev pub after_events : World → List Event → World
after_events w [] = w
after_events w (e ∷ es) = after_events (apply_event w e) es

-- the events, then the record after of the creature that ran, then the end of its turn
unfoldable pub replay : List Event → Creature → World → World
replay events after w = turn_end (put after (after_events w events))

-- an event is possible
abbrev pub CanHappen : World → Event → Type 0
CanHappen w (event.Write at value) = (at < w.settings.soup_size) × (value < 32)
CanHappen w event.Err = Unit {0}
CanHappen w event.Good = Unit {0}
CanHappen w event.GiveUp = IsSome (front w).daughter
CanHappen w (event.Mal at size) =
    ((front w).daughter ≡ None) × IsBlock w.settings.soup_size (record { at = at; size = size })
    × ((p : ℕ) → is_in (record { at = at; size = size }) p ≡ true → is_owned w.living p ≡ false)
CanHappen w (event.Reap place) = (place < length w.reaper) × (slice_index w.reaper place ≢ (front w).id)
CanHappen w (event.Divide ran moved) = IsSome (front w).daughter × (1 ≤ ran)

-- each event is possible at its turn
abbrev pub CanAllHappen : World → List Event → Type 0
CanAllHappen w [] = Unit {0}
CanAllHappen w (e ∷ es) = CanHappen w e × CanAllHappen (apply_event w e) es

-- the record after fits the creature that is at the front after the last event
pub record RecordFits (c after : Creature) : Type 0 where
  pub id : after.id ≡ c.id
  pub own : after.own ≡ c.own
  pub daughter : after.daughter ≡ c.daughter
  pub errors : after.errors ≡ c.errors
  pub genotype : after.genotype ≡ c.genotype

-- the events with the record after fit the world: each is possible, the replay is sound, and the record fits
pub record EventsFit (events : List Event) (after : Creature) (w : World) : Type 0 where
  pub each : CanAllHappen w events
  pub sound : IsSound (replay events after w)
  pub record_fits : RecordFits (front (after_events w events)) after
