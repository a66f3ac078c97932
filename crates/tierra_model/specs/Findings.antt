-- Findings: what a quantum read and did in a scene, and when the quantum of a world does the same.
use Rattle.std.specs.Prelude.{List, None, Option, Some, [], replicate, slice_index, slice_set, unwrap_or, ℕ, ◌+◌, ◌-◌}
use Rattle.std.specs.Prelude.{◌∷◌, ◌<◌, ◌≡◌, ◌≤◌}
use Rattle.tierra_model.specs.declared.limits.TheConstants.{MOST_QUANTA}
use Rattle.tierra_model.specs.declared.creatures.Creature.{Creature}
use Rattle.tierra_model.specs.declared.events.Event.{Event}
use Rattle.tierra_model.specs.declared.parameters.Settings.{Settings}
use Rattle.tierra_model.specs.Quantum.{quantum}
use Rattle.tierra_model.specs.World.{World, front}
use Rattle.tierra_model.specs.Sound.{IsSound}
use Rattle.tierra_model.specs.FreeList.{free_list}
use Rattle.tierra_model.specs.Yard.{yard}
use Rattle.tierra_model.specs.Scene.{Scene, scene_of}
use Rattle.tierra_model.specs.Reads.{Reads}
use Rattle.tierra_model.specs.SceneRun.{reads_of, run_in_scene}
use Rattle.tierra_model.specs.Replay.{EventsFit, replay}

pub record Finding : Type 0 where
  pub settings : Settings
  pub quantum : ℕ
  pub before : Creature
  pub reads : Reads
  pub events : List Event
  pub after : Creature

-- what the quantum of a scene finds
abbrev pub finding_of : Scene → Finding
finding_of scene =
    let x = run_in_scene scene in
    record {
      settings = scene.settings;
      quantum = scene.quanta + 1;
      before = scene.front;
      reads = reads_of x;
      events = x.events;
      after = x.now.front;
    }

-- the soup with what was seen in each cell
abbrev pub seen_soup : List (ℕ × ℕ) → List ℕ → List ℕ
seen_soup [] soup = soup
seen_soup (c ∷ cs) soup = seen_soup cs (slice_set soup c.0 c.1)

-- the scene that a finding describes: cells not read hold 0, and lists not noted are empty
abbrev pub scene_of_finding : Finding → Scene
scene_of_finding f =
    record {
      settings = f.settings;
      quanta = f.quantum - 1;
      front = f.before;
      soup = seen_soup f.reads.cells (replicate f.settings.soup_size 0);
      free = unwrap_or f.reads.free [];
      yard = unwrap_or f.reads.yard [];
    }

-- running the finding's scene gives its reads, its events and its record after; and its quantum is 1 to MOST_QUANTA
pub record Stands (f : Finding) : Type 0 where
  pub reads : reads_of (run_in_scene (scene_of_finding f)) ≡ f.reads
  pub events : (run_in_scene (scene_of_finding f)).events ≡ f.events
  pub after : (run_in_scene (scene_of_finding f)).now.front ≡ f.after
  pub at_least_one : 1 ≤ f.quantum
  pub at_most_limit : f.quantum ≤ MOST_QUANTA

-- The finding of a sound world's scene stands: a scene that holds only what was read runs the same.
abbrev pub FindingStands : Type 0
FindingStands = (w : World) → IsSound w → w.quanta < MOST_QUANTA → Stands (finding_of (scene_of w))

abbrev pub CellsAgree : List (ℕ × ℕ) → World → Type 0
CellsAgree [] w = Unit {0}
CellsAgree (c ∷ cs) w = (slice_index w.soup c.0 ≡ c.1) × CellsAgree cs w

abbrev pub SameIfSome : {A : Type 0} → Option A → A → Type 0
SameIfSome None a = Unit {0}
SameIfSome (Some b) a = b ≡ a

-- the world still has what was read, and the creature at its front has the record c
pub record Agrees (reads : Reads) (c : Creature) (w : World) : Type 0 where
  pub front : front w ≡ c
  pub cells : CellsAgree reads.cells w
  pub free : SameIfSome reads.free (free_list w)
  pub yard : SameIfSome reads.yard (yard w)

pub record FindingReplays (f : Finding) (w : World) : Type 0 where
  pub quantum : replay f.events f.after w ≡ quantum w
  pub fit : EventsFit f.events f.after w

-- Where a finding stands and agrees with a sound world, its events fit and their replay is the quantum.
abbrev pub LawOfFindings : Type 0
LawOfFindings = (f : Finding) (w : World) → IsSound w → Stands f → w.settings ≡ f.settings
    → w.quanta + 1 ≡ f.quantum → Agrees f.reads f.before w → FindingReplays f w
