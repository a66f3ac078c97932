-- A scene: what a quantum can see of a world.
use Rattle.std.specs.Prelude.{Bool, List, None, Option, Some, [], not, slice_index_or, slice_set, ℕ, ◌&&◌, ◌++◌, ◌+◌}
use Rattle.std.specs.Prelude.{◌||◌, ◌∷◌}
use Rattle.tierra_model.specs.declared.creatures.Block.{Block}
use Rattle.tierra_model.specs.declared.creatures.Creature.{Creature}
use Rattle.tierra_model.specs.declared.events.Event.{Event}
use Rattle.tierra_model.specs.declared.parameters.Settings.{Settings}
use Rattle.tierra_model.specs.declared.creatures.Standing.{Standing}
use Rattle.tierra_model.specs.declared.events.Event.TheVariants as event
use Rattle.tierra_model.specs.Queue.{error_move, good_move, without_place}
use Rattle.tierra_model.specs.Blocks.{is_in, is_in_daughter}
use Rattle.tierra_model.specs.World.{World, front}
use Rattle.tierra_model.specs.Events.{record_after}
use Rattle.tierra_model.specs.FreeList.{free_list, is_in_some, runs_of}
use Rattle.tierra_model.specs.Yard.{is_standing_of, no_standing, stand_in, with_standing, yard}

pub record Scene : Type 0 where
  pub settings : Settings
  pub quanta : ℕ
  pub front : Creature
  pub soup : List ℕ
  pub free : List Block
  pub yard : List Standing

unfoldable pub scene_of : World → Scene
scene_of w =
    record {
      settings = w.settings;
      quanta = w.quanta;
      front = front w;
      soup = w.soup;
      free = free_list w;
      yard = yard w;
    }

-- the running creature's standing in the yard follows its record
abbrev pub set_front : Creature → Scene → Scene
set_front c s = record s { front = c; yard = with_standing c s.yard }

-- the scene where the cells that the test picks are free as well
abbrev pub with_freed : (ℕ → Bool) → Scene → Scene
with_freed test s = record s { free = runs_of s.settings.soup_size (λ p. is_in_some s.free p || test p) }

-- the cells of the block are no longer free
abbrev pub with_taken : Block → Scene → Scene
with_taken b s = record s { free = runs_of s.settings.soup_size (λ p. is_in_some s.free p && not (is_in b p)) }

-- newborn k of the quantum stands at the bottom
abbrev pub with_newborn : ℕ → Option Block → Scene → Scene
with_newborn k None s = s
with_newborn k (Some b) s =
    record s { yard = s.yard ++ (record { id = stand_in k; errors = 0; own = b; daughter = None }) ∷ [] }

-- What an event does to a scene in which k creatures were born in this quantum.
unfoldable pub apply_in_scene : ℕ → Scene → Event → Scene
apply_in_scene k s (event.Write at value) = record s { soup = slice_set s.soup at value }
apply_in_scene k s event.Err =
    let t = set_front (record_after event.Err s.front) s in
    record t { yard = error_move (is_standing_of t.front) (λ x. x.errors) t.yard }
apply_in_scene k s event.Good = record s { yard = good_move (is_standing_of s.front) (λ x. x.errors) s.yard }
apply_in_scene k s event.GiveUp =
    set_front (record_after event.GiveUp s.front) (with_freed (is_in_daughter s.front.daughter) s)
apply_in_scene k s (event.Mal at size) =
    set_front (record_after (event.Mal at size) s.front) (with_taken (record { at = at; size = size }) s)
apply_in_scene k s (event.Reap place) =
    let x = slice_index_or s.yard place no_standing in
    let t = with_freed (λ p. is_in x.own p || is_in_daughter x.daughter p) s in
    record t { yard = without_place place t.yard }
apply_in_scene k s (event.Divide ran moved) =
    set_front (record_after (event.Divide ran moved) s.front) (with_newborn (k + 1) s.front.daughter s)
