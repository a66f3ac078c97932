-- What each event of a quantum does to the running creature's record, and to a world.
use Rattle.std.specs.Prelude.{Bool, List, None, Option, Some, [], filter, not, pos, slice_index, slice_range, slice_set}
use Rattle.std.specs.Prelude.{ℕ, ◌++◌, ◌+◌, ◌==◌, ◌∷◌}
use Rattle.tierra_model.specs.declared.creatures.Block.{Block}
use Rattle.tierra_model.specs.declared.creatures.Creature.{Creature}
use Rattle.tierra_model.specs.declared.events.Event.{Event}
use Rattle.tierra_model.specs.declared.events.Event.TheVariants as event
use Rattle.tierra_model.specs.Queue.{error_move, good_move, rotation}
use Rattle.tierra_model.specs.Living.{newborn, one_of, without}
use Rattle.tierra_model.specs.World.{Genotype, World, front, put}
use Rattle.tierra_model.specs.Individuals.{genotypes_at_birth, savings_after, with_individual}

-- the record of the creature that runs, after an event of its own
abbrev pub record_after : Event → Creature → Creature
record_after (event.Write at value) c = c
record_after event.Err c = record c { flag = 1; errors = c.errors + 1 }
record_after event.Good c = c
-- a daughter block that is held is given up
record_after event.GiveUp c = record c { daughter = None; moved = 0 }
-- the block taken is the daughter block
record_after (event.Mal at size) c =
    record c { daughter = Some (record { at = at; size = size }); moved = 0; ax = pos at }
record_after (event.Reap place) c = c
-- the daughter has become a creature
record_after (event.Divide ran moved) c = record c { daughter = None; moved = 0; ran = 0; bred = c.bred + 1 }

abbrev pub has_id : Creature → ℕ → Bool
has_id c id = id == c.id

-- A creature with the next birth number comes into the world, at the back of the slicer queue and at the bottom of the
-- reaper queue. Its genotype is counted in the list known.
abbrev pub with_creature : List Genotype → Block → List ℕ → Option ℕ → ℕ → World → World
with_creature known own code parent q w =
    let (genotypes, k) = with_individual known code parent q in
    record w {
      living = w.living ++ newborn w.next_birth own k ∷ [];
      slicer = w.slicer ++ w.next_birth ∷ [];
      reaper = w.reaper ++ w.next_birth ∷ [];
      genotypes = genotypes;
      saved = savings_after w.settings.save_at genotypes k q w.saved;
      next_birth = w.next_birth + 1;
    }

-- a creature leaves both lists and the living
abbrev pub with_death : ℕ → World → World
with_death id w =
    record w {
      living = without id w.living;
      slicer = filter (λ x. not (x == id)) w.slicer;
      reaper = filter (λ x. not (x == id)) w.reaper;
      deaths = w.deaths + 1;
    }

-- The daughter block becomes a creature, whose mother has genotype parent. A divide is possible only with a daughter
-- block.
abbrev pub with_birth : List Genotype → Option Block → ℕ → World → World
with_birth known None parent w = w
with_birth known (Some b) parent w =
    let v = with_creature known b (slice_range w.soup b.at (b.at + b.size)) (Some parent) (w.quanta + 1) w in
    record v { births = w.births + 1 }

abbrev pub errors_in : World → ℕ → ℕ
errors_in w id = (one_of w.living id).errors

abbrev pub with_error_move : World → World
with_error_move w = record w { reaper = error_move (has_id (front w)) (errors_in w) w.reaper }

abbrev pub with_good_move : World → World
with_good_move w = record w { reaper = good_move (has_id (front w)) (errors_in w) w.reaper }

-- What an event does. (If it cannot happen, the result has no meaning.) A birth, in order: the mother's genotype gets
-- the effort, if this is her first or her second daughter; the daughter block becomes a creature; then her record loses
-- the daughter block, and ran begins anew.
unfoldable pub apply_event : World → Event → World
apply_event w (event.Write at value) = record w { soup = slice_set w.soup at value }
apply_event w event.Err = with_error_move (put (record_after event.Err (front w)) w)
apply_event w event.Good = with_good_move w
apply_event w event.GiveUp = put (record_after event.GiveUp (front w)) w
apply_event w (event.Mal at size) = put (record_after (event.Mal at size) (front w)) w
apply_event w (event.Reap place) = with_death (slice_index w.reaper place) w
apply_event w (event.Divide ran moved) =
    put (record_after (event.Divide ran moved) (front w))
    (with_birth (genotypes_at_birth (front w) ran moved w.genotypes) (front w).daughter (front w).genotype w)

-- the end of a quantum
abbrev pub turn_end : World → World
turn_end w = record w { slicer = rotation w.slicer; quanta = w.quanta + 1 }
