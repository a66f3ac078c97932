-- A quantum that runs in a scene, and notes what it reads.
use Rattle.std.specs.List.{list_any}
use Rattle.std.specs.Prelude.{Bool, List, [], false, if◌then◌else◌, map, not, slice_index, true, ℕ, ◌++◌, ◌+◌, ◌||◌}
use Rattle.std.specs.Prelude.{◌∷◌}
use Rattle.tierra_model.specs.declared.events.Event.{Event}
use Rattle.tierra_model.specs.declared.events.Event.TheVariants as event
use Rattle.tierra_model.specs.Quantum.{Machine, run, slice_of}
use Rattle.tierra_model.specs.FreeList.{is_in_some}
use Rattle.tierra_model.specs.Scene.{Scene, apply_in_scene, set_front}
use Rattle.tierra_model.specs.Reads.{Reads, is_noted, some_if, writes}

-- A quantum under way: the scene at its start and now, which cells were noted with what they held, whether
-- the free list and the yard were noted, the events so far, and how many were born.
pub record SceneRun : Type 0 where
  pub start : Scene
  pub now : Scene
  pub cells : List (ℕ × ℕ)
  pub free_noted : Bool
  pub yard_noted : Bool
  pub events : List Event
  pub newborns : ℕ

-- whether a look at the cell is not noted: it is noted already, or this quantum wrote it. A look at any other cell
-- sees what it held at the start.
abbrev pub is_known : SceneRun → ℕ → Bool
is_known x p = is_noted x.cells p || list_any (writes p) x.events

unfoldable pub with_noted_cell : SceneRun → ℕ → SceneRun
with_noted_cell x p =
    record x { cells = (if is_known x p then x.cells else x.cells ++ (p, slice_index x.start.soup p) ∷ []) }

abbrev pub births_of : Event → ℕ
births_of (event.Write at value) = 0
births_of event.Err = 0
births_of event.Good = 0
births_of event.GiveUp = 0
births_of (event.Mal at size) = 0
births_of (event.Reap place) = 0
births_of (event.Divide ran moved) = 1

abbrev pub scene_machine : Machine SceneRun
scene_machine =
    record {
      front = λ x. x.now.front;
      put = λ c x. record x { now = set_front c x.now };
      cell = λ x p. slice_index x.now.soup p;
      look = with_noted_cell;
      owned = λ x p. not (is_in_some x.now.free p);
      ask_free = λ x. record x { free_noted = true };
      reaper = λ x. map (λ s. s.id) x.now.yard;
      ask_reaper = λ x. record x { yard_noted = true };
      apply = λ x e. record x {
        now = apply_in_scene x.newborns x.now e;
        events = x.events ++ e ∷ [];
        newborns = x.newborns + births_of e;
      };
    }

abbrev pub run_start : Scene → SceneRun
run_start s =
    record { start = s; now = s; cells = []; free_noted = false; yard_noted = false; events = []; newborns = 0 }

-- the quantum that runs in the scene
unfoldable pub run_in_scene : Scene → SceneRun
run_in_scene s =
    run scene_machine s.settings (s.quanta + 1) (slice_of s.front.own.size s.settings) (run_start s)

abbrev pub reads_of : SceneRun → Reads
reads_of x =
    record { cells = x.cells; free = some_if x.free_noted x.start.free; yard = some_if x.yard_noted x.start.yard }
