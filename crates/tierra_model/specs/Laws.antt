-- The laws on instructions, on soundness and on the genebank.
use Rattle.std.specs.Prelude.{All, List, Option, false, length, slice_index, true, ℕ, ◌*◌, ◌+◌, ◌/◌, ◌<◌, ◌≡◌, ◌≢◌, ◌≤◌}
use Rattle.tierra_model.specs.declared.limits.TheConstants.{MOST_QUANTA}
use Rattle.tierra_model.specs.declared.creatures.Creature.{Creature}
use Rattle.tierra_model.specs.declared.creatures.Standing.{Standing}
use Rattle.tierra_model.specs.Queue.{error_move, good_move}
use Rattle.tierra_model.specs.Counting.{times_in}
use Rattle.tierra_model.specs.Look.{answer}
use Rattle.tierra_model.specs.Step.{step}
use Rattle.tierra_model.specs.Quantum.{disturb, flip, instruction, perform, quantum, reap_times, world_machine}
use Rattle.tierra_model.specs.World.{World, first_of, front, put}
use Rattle.tierra_model.specs.Sound.{IsSound}
use Rattle.tierra_model.specs.Setups.{IsSetup, SetupFields}
use Rattle.tierra_model.specs.Serial.{serial}
use Rattle.tierra_model.specs.Yard.{is_standing_of, stand_in}
use Rattle.tierra_model.specs.Reads.{ahead}
use Rattle.tierra_model.specs.Groups.{IsGroup}
use Rattle.tierra_model.specs.Genebank.{bank, groups_of}

-- Instruction i of the creature at the front: the record and the act that follow from the soup as it is. The record is
-- put in, and the act done.
abbrev pub plain_instruction : (ℕ → ℕ) → ℕ → World → World
plain_instruction draw i w =
    let (c, act) = answer (step w.settings draw i (front w)) (slice_index w.soup) in
    perform world_machine w.settings act (put c w)

-- An instruction run on a world as a machine does just that.
abbrev pub InstructionIsPlain : Type 0
InstructionIsPlain = (w : World) (draw : ℕ → ℕ) (i : ℕ)
    → instruction world_machine w.settings draw i w ≡ plain_instruction draw i w

-- A quantum of a sound world leaves a sound world, with the same settings and one quantum more.
pub record StaysSound (w : World) : Type 0 where
  pub sound : IsSound (quantum w)
  pub settings : (quantum w).settings ≡ w.settings
  pub quanta : (quantum w).quanta ≡ w.quanta + 1

abbrev pub QuantumIsSound : Type 0
QuantumIsSound = (w : World) → IsSound w → w.quanta < MOST_QUANTA → StaysSound w

-- Every world of a serial run is sound, and has the settings of the setup and the quanta that were run.
pub record IsSerialRun (setup : SetupFields) (n : ℕ) : Type 0 where
  pub sound : IsSound (serial setup n)
  pub settings : (serial setup n).settings ≡ setup.settings
  pub quanta : (serial setup n).quanta ≡ n

abbrev pub SerialIsSound : Type 0
SerialIsSound = (setup : SetupFields) (n : ℕ) → IsSetup setup → n ≤ MOST_QUANTA → IsSerialRun setup n

-- Turned so that a living creature is at the front, before any quantum to come, a sound world is sound.
pub record TurnsSound (w : World) (q id : ℕ) : Type 0 where
  pub sound : IsSound (ahead w q id)
  pub front : first_of (ahead w q id).slicer ≡ id

abbrev pub AheadIsSound : Type 0
AheadIsSound = (w : World) (q id : ℕ) → IsSound w → w.quanta + 1 ≤ q → q ≤ MOST_QUANTA → 0 < times_in w.slicer id
    → TurnsSound w q id

-- The disturbance of a sound world, which comes after the background flip, counts the living.
abbrev pub DisturbanceCountsLiving : Type 0
DisturbanceCountsLiving = (w : World) (bit : Option (ℕ × ℕ)) → IsSound w
    → disturb world_machine w.settings true (flip world_machine w.settings bit w)
    ≡ reap_times world_machine w.settings (length w.living * w.settings.dist_percent / 100)
    (flip world_machine w.settings bit w)

-- The groups of the world after n quanta are the genebank of a run of n quanta.
abbrev pub BankIsGroups : Type 0
BankIsGroups = (setup : SetupFields) (n : ℕ) → IsSetup setup → n ≤ MOST_QUANTA
    → groups_of (serial setup n) ≡ bank setup (n + 1)

-- Each group of a genebank is in the ranges.
abbrev pub BankInRange : Type 0
BankInRange = (setup : SetupFields) (n : ℕ) → IsSetup setup → n ≤ MOST_QUANTA → All IsGroup (bank setup (n + 1))

-- No creature of a sound world has a newborn's stand-in, and a queue move of one that a yard lacks changes nothing.
abbrev pub YardsAreSafe : Type 0
YardsAreSafe =
    ((w : World) (k : ℕ) → IsSound w → All (λ c. c.id ≢ stand_in k) w.living)
    × ((c : Creature) (errors : Standing → ℕ) (standings : List Standing)
    → All (λ x. is_standing_of c x ≡ false) standings
    → (error_move (is_standing_of c) errors standings ≡ standings)
    × (good_move (is_standing_of c) errors standings ≡ standings))
