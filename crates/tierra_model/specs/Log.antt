-- What the quantum of a world reads and does, noted while it runs.
use Rattle.std.specs.List.{list_any}
use Rattle.std.specs.Prelude.{Bool, List, [], false, if◌then◌else◌, slice_index, true, ℕ, ◌++◌, ◌+◌, ◌||◌, ◌∷◌, ◌≡◌}
use Rattle.tierra_model.specs.declared.events.Event.{Event}
use Rattle.tierra_model.specs.Quantum.{Machine, quantum, run, slice_of}
use Rattle.tierra_model.specs.World.{World, front, put}
use Rattle.tierra_model.specs.Room.{is_owned}
use Rattle.tierra_model.specs.Sound.{IsSound}
use Rattle.tierra_model.specs.Events.{apply_event, turn_end}
use Rattle.tierra_model.specs.FreeList.{free_list}
use Rattle.tierra_model.specs.Yard.{yard}
use Rattle.tierra_model.specs.Scene.{scene_of}
use Rattle.tierra_model.specs.Reads.{Reads, is_noted, some_if, writes}
use Rattle.tierra_model.specs.SceneRun.{reads_of, run_in_scene}

pub record Log : Type 0 where
  pub start : World
  pub now : World
  pub cells : List (ℕ × ℕ)
  pub free_noted : Bool
  pub yard_noted : Bool
  pub events : List Event

-- notes a cell with what it held at the start, unless it is noted already or this quantum wrote it before
abbrev pub with_logged_cell : Log → ℕ → Log
with_logged_cell x p =
    record x {
      cells = (if is_noted x.cells p || list_any (writes p) x.events then x.cells
          else x.cells ++ (p, slice_index x.start.soup p) ∷ []);
    }

abbrev pub log_machine : Machine Log
log_machine =
    record {
      front = λ x. front x.now;
      put = λ c x. record x { now = put c x.now };
      cell = λ x p. slice_index x.now.soup p;
      look = with_logged_cell;
      owned = λ x p. is_owned x.now.living p;
      ask_free = λ x. record x { free_noted = true };
      reaper = λ x. x.now.reaper;
      ask_reaper = λ x. record x { yard_noted = true };
      apply = λ x e. record x { now = apply_event x.now e; events = x.events ++ e ∷ [] };
    }

abbrev pub empty_log : World → Log
empty_log w = record { start = w; now = w; cells = []; free_noted = false; yard_noted = false; events = [] }

-- the log of the quantum of w
unfoldable pub log_of : World → Log
log_of w = run log_machine w.settings (w.quanta + 1) (slice_of (front w).own.size w.settings) (empty_log w)

-- what the quantum of w reads
abbrev pub touched : World → Reads
touched w =
    let x = log_of w in
    record { cells = x.cells; free = some_if x.free_noted (free_list w); yard = some_if x.yard_noted (yard w) }

-- the events of the quantum of w, in order
abbrev pub events_of : World → List Event
events_of w = (log_of w).events

-- Noting does not change the quantum. What the quantum reads and does, and the record it leaves, are the same when it
-- runs in its scene.
pub record IsSceneAlone (w : World) : Type 0 where
  pub quantum : turn_end (log_of w).now ≡ quantum w
  pub reads : touched w ≡ reads_of (run_in_scene (scene_of w))
  pub events : events_of w ≡ (run_in_scene (scene_of w)).events
  pub front : front (log_of w).now ≡ (run_in_scene (scene_of w)).now.front

abbrev pub SceneAlone : Type 0
SceneAlone = (w : World) → IsSound w → IsSceneAlone w
