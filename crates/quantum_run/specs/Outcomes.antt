-- What a quantum that ran in a scene leaves.
use Rattle.std.specs.Prelude.{List, ℕ, ◌≡◌}
use Rattle.tierra_model.specs.declared.creatures.Block.{Block}
use Rattle.tierra_model.specs.declared.creatures.Creature.{Creature}
use Rattle.tierra_model.specs.declared.creatures.Standing.{Standing}
use Rattle.tierra_model.specs.declared.parameters.Settings.{Settings}
use Rattle.tierra_model.specs.Findings.{Finding}
use Rattle.tierra_model.specs.Reads.{some_if}
use Rattle.tierra_model.specs.Scene.{Scene}
use Rattle.tierra_model.specs.SceneRun.{run_in_scene}
use Rattle.tierra_model.proofs.Each.{Each}
use Rattle.quantum_run.specs.declared.outcome.Outcome.{Outcome}
use Rattle.quantum_run.specs.OnScene.{IsCellOf}
use Rattle.quantum_run.specs.Seen.{HasNoList}

-- the quantum of the scene leaves this outcome, in which no list is noted yet, and every cell that it read is in the
-- soup
pub record IsOutcome (scene : Scene) (o : Outcome) : Type 0 where
  pub none : HasNoList o.reads.reads
  pub cells : o.reads.reads.cells ≡ (run_in_scene scene).cells
  pub events : o.events.items ≡ (run_in_scene scene).events
  pub after : o.after ≡ (run_in_scene scene).now.front
  pub free : o.free_noted ≡ (run_in_scene scene).free_noted
  pub yard : o.yard_noted ≡ (run_in_scene scene).yard_noted
  pub within : Each (IsCellOf scene.settings.soup_size) (run_in_scene scene).cells

-- the finding made from an outcome, with the settings, number, record before and lists shown of its quantum
abbrev pub finding_by : Settings → ℕ → Creature → List Block → List Standing → Outcome → Finding
finding_by settings quantum before free yard o =
    record {
      settings = settings;
      quantum = quantum;
      before = before;
      reads = record {
        cells = o.reads.reads.cells;
        free = some_if o.free_noted free;
        yard = some_if o.yard_noted yard;
      };
      events = o.events.items;
      after = o.after;
    }
