-- What a creature's record is after a mal or a divide.
use Rattle.std.specs.Prelude.{None, Some}
use Rattle.tierra_model.specs.declared.creatures.Creature.{Creature}
use Rattle.tierra_model.specs.declared.events.Event.TheVariants as event
use Rattle.tierra_model.specs.Events.{record_after}

-- a daughter block that is held is given up
abbrev pub without_daughter : Creature → Creature
without_daughter c = elim c.daughter [ None ↦ c | Some b ↦ record_after event.GiveUp c ]
