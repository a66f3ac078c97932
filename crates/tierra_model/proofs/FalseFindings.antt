-- Neighbours of the laws on findings and scenes that are false: each fails in a small world.
use Rattle.std.proofs.Common.{◌≡◌, ℕ, ◌≤◌, arith, ◌+◌, true, [], ◌∷◌, ◌++◌, lit≤, refl, ap}
use Rattle.std.specs.Prelude.{Some, None, pos, if◌then◌else◌, length, slice_index, slice_set, take, unwrap_or}
use Rattle.std.proofs.lemmas.Bool.{eqb-false}
use Rattle.tierra_model.specs.declared.limits.TheConstants.{MOST_QUANTA}
use Rattle.tierra_model.specs.Blocks.{no_block}
use Rattle.tierra_model.specs.Quantum.{Machine, run, slice_of}
use Rattle.tierra_model.specs.Living.{one_of}
use Rattle.tierra_model.specs.World.{World, front}
use Rattle.tierra_model.specs.Sound.{IsSound}
use Rattle.tierra_model.specs.Setups.{SetupFields}
use Rattle.tierra_model.specs.Serial.{start, serial}
use Rattle.tierra_model.specs.FreeList.{free_list}
use Rattle.tierra_model.specs.Yard.{yard}
use Rattle.tierra_model.specs.Scene.{Scene, scene_of}
use Rattle.tierra_model.specs.Reads.{Reads, is_noted}
use Rattle.tierra_model.specs.SceneRun.{SceneRun, scene_machine, run_start, reads_of}
use Rattle.tierra_model.specs.Log.{touched}
use Rattle.tierra_model.specs.Replay.{replay}
use Rattle.tierra_model.specs.Findings.{finding_of, Finding, Stands, Agrees, CellsAgree, SameIfSome, FindingReplays}
use Rattle.tierra_model.proofs.FirstDifference.{of_cells-agrees}
use Rattle.tierra_model.proofs.LawOfFindings.{law}
use Rattle.tierra_model.proofs.StartIsSound.{serial_is_sound}
use Rattle.tierra_model.proofs.Examples.{four, hundred, two, is_setup}
use Rattle.tierra_model.proofs.Computing.{scenes}

-- ---- the law of findings needs each of its premises

abbrev LawUnder : (Finding → World → Type 0) → Type 0
LawUnder Premise = (f : Finding) (w : World) → IsSound w → Stands f → Premise f w → FindingReplays f w

abbrev WithAll : Finding → World → Type 0
WithAll f w = (w.settings ≡ f.settings) × (w.quanta + 1 ≡ f.quantum) × Agrees f.reads f.before w

-- With all of them it is the law.
pub all_enough : LawUnder WithAll
all_enough f w s stands p = law f w s stands p.0 p.1 p.2

abbrev WithoutRecord : Finding → World → Type 0
WithoutRecord f w =
    (w.settings ≡ f.settings) × (w.quanta + 1 ≡ f.quantum)
    × CellsAgree f.reads.cells w × SameIfSome f.reads.free (free_list w) × SameIfSome f.reads.yard (yard w)

-- The finding's creature has 5 in ax, where it cannot write; the world's writes 26 into cell 0.
pub record_needed : LawUnder WithoutRecord → ⊥
unfolding scenes replay
record_needed claim =
    let w : World = start two in
    let f : Finding = finding_of (record (scene_of w) { front = record (front w) { ax = pos 5 } }) in
    let s : IsSound w = (serial_is_sound two 0 (is_setup two (lit≤ tt) refl) (lit≤ tt)).sound in
    let stands : Stands f = record { reads = refl; events = refl; after = refl; at_least_one = lit≤ tt; at_most_limit = lit≤ tt } in
    let r = claim f w s stands (refl, refl, of_cells-agrees f.reads.cells w refl, tt, tt) in
    eqb-false 9 26 refl (ap (λ (v : World). slice_index v.soup 0) r.quantum)

abbrev WithoutCells : Finding → World → Type 0
WithoutCells f w =
    (w.settings ≡ f.settings) × (w.quanta + 1 ≡ f.quantum)
    × (front w ≡ f.before) × SameIfSome f.reads.free (free_list w) × SameIfSome f.reads.yard (yard w)

-- The finding saw inc_a in cell 0, where the world has inc_b: it writes into cell 1, and the world into cell 0.
pub cells_needed : LawUnder WithoutCells → ⊥
unfolding scenes replay
cells_needed claim =
    let w : World = start two in
    let f : Finding = finding_of (record (scene_of w) { soup = slice_set w.soup 0 8 }) in
    let s : IsSound w = (serial_is_sound two 0 (is_setup two (lit≤ tt) refl) (lit≤ tt)).sound in
    let stands : Stands f = record { reads = refl; events = refl; after = refl; at_least_one = lit≤ tt; at_most_limit = lit≤ tt } in
    let r = claim f w s stands (refl, refl, refl, tt, tt) in
    eqb-false 9 26 refl (ap (λ (v : World). slice_index v.soup 0) r.quantum)

-- one creature, which asks for 12 cells
abbrev grows : SetupFields
grows = record { settings = hundred; creatures = record { at = 0; code = 4 ∷ 2 ∷ 3 ∷ 2 ∷ 3 ∷ 3 ∷ 30 ∷ [] } ∷ [] }

abbrev WithoutFreeList : Finding → World → Type 0
WithoutFreeList f w =
    (w.settings ≡ f.settings) × (w.quanta + 1 ≡ f.quantum)
    × (front w ≡ f.before) × CellsAgree f.reads.cells w × SameIfSome f.reads.yard (yard w)

-- The finding saw free cells from 60 on, and takes its block there; the world takes it from cell 7 on.
pub free_list_needed : LawUnder WithoutFreeList → ⊥
unfolding scenes replay
free_list_needed claim =
    let w : World = start grows in
    let f : Finding = finding_of (record (scene_of w) { free = record { at = 60; size = 40 } ∷ [] }) in
    let s : IsSound w = (serial_is_sound grows 0 (is_setup grows (lit≤ tt) refl) (lit≤ tt)).sound in
    let stands : Stands f = record { reads = refl; events = refl; after = refl; at_least_one = lit≤ tt; at_most_limit = lit≤ tt } in
    let r = claim f w s stands (refl, refl, refl, of_cells-agrees f.reads.cells w refl, tt) in
    eqb-false 60 7 refl (ap (λ (v : World). (unwrap_or (one_of v.living 1).daughter no_block).at) r.quantum)

abbrev WithoutYard : Finding → World → Type 0
WithoutYard f w =
    (w.settings ≡ f.settings) × (w.quanta + 1 ≡ f.quantum)
    × (front w ≡ f.before) × CellsAgree f.reads.cells w × SameIfSome f.reads.free (free_list w)

-- four creatures, of whom half die in each quantum
abbrev disturbed : SetupFields
disturbed = record four { settings = record hundred { dist_every = 1; dist_percent = 50; disturbing = (lit≤ tt, lit≤ tt) } }

-- The finding saw two creatures, of whom the disturbance kills one; of the world's four it kills two.
pub yard_needed : LawUnder WithoutYard → ⊥
unfolding scenes replay
yard_needed claim =
    let w : World = start disturbed in
    let f : Finding = finding_of (record (scene_of w) { yard = take 2 (yard w) }) in
    let s : IsSound w = (serial_is_sound disturbed 0 (is_setup disturbed (lit≤ tt) refl) (lit≤ tt)).sound in
    let stands : Stands f = record { reads = refl; events = refl; after = refl; at_least_one = lit≤ tt; at_most_limit = lit≤ tt } in
    let r = claim f w s stands (refl, refl, refl, of_cells-agrees f.reads.cells w refl, tt) in
    eqb-false 1 2 refl (ap (λ (v : World). v.deaths) r.quantum)

abbrev WithoutNumber : Finding → World → Type 0
WithoutNumber f w = (w.settings ≡ f.settings) × Agrees f.reads f.before w

-- The finding is of quantum 2, which is disturbed; the world's next is quantum 1.
pub number_needed : LawUnder WithoutNumber → ⊥
unfolding scenes replay
number_needed claim =
    let w : World = start four in
    let f : Finding = finding_of (record (scene_of w) { quanta = 1 }) in
    let s : IsSound w = (serial_is_sound four 0 (is_setup four (lit≤ tt) refl) (lit≤ tt)).sound in
    let stands : Stands f = record { reads = refl; events = refl; after = refl; at_least_one = lit≤ tt; at_most_limit = lit≤ tt } in
    let agrees : Agrees f.reads f.before w = record { front = refl; cells = of_cells-agrees f.reads.cells w refl; free = tt; yard = refl } in
    let r = claim f w s stands (refl, agrees) in
    eqb-false 2 0 refl (ap (λ (v : World). v.deaths) r.quantum)

abbrev WithoutSettings : Finding → World → Type 0
WithoutSettings f w = (w.quanta + 1 ≡ f.quantum) × Agrees f.reads f.before w

-- The finding's slice is one instruction; the world's has 25, of which the second writes.
pub settings_needed : LawUnder WithoutSettings → ⊥
unfolding scenes replay
settings_needed claim =
    let w : World = start two in
    let f : Finding = finding_of (record (scene_of w) { settings = record hundred { slice_size = 1; slice = (lit≤ tt, lit≤ tt) } }) in
    let s : IsSound w = (serial_is_sound two 0 (is_setup two (lit≤ tt) refl) (lit≤ tt)).sound in
    let stands : Stands f = record { reads = refl; events = refl; after = refl; at_least_one = lit≤ tt; at_most_limit = lit≤ tt } in
    let agrees : Agrees f.reads f.before w = record { front = refl; cells = of_cells-agrees f.reads.cells w refl; free = tt; yard = tt } in
    let r = claim f w s stands (refl, agrees) in
    eqb-false 9 26 refl (ap (λ (v : World). slice_index v.soup 0) r.quantum)

-- ---- findings end with the last quantum

abbrev StandsTo : ℕ → Type 0
StandsTo most = (w : World) → IsSound w → w.quanta ≤ most → Stands (finding_of (scene_of w))

pub not_after_the_last : StandsTo MOST_QUANTA → ⊥
unfolding scene_of
not_after_the_last claim =
    let last = serial_is_sound two MOST_QUANTA (is_setup two (lit≤ tt) refl) (lit≤ tt) in
    let stands = claim (serial two MOST_QUANTA) last.sound (omega (arith, last.quanta)) in
    omega (arith, stands.at_most_limit, last.quanta)

-- ---- a scene notes no more than its world

abbrev run_on : Machine SceneRun → Scene → SceneRun
run_on P s = run P s.settings (s.quanta + 1) (slice_of s.front.own.size s.settings) (run_start s)

abbrev ReadsAlike : Machine SceneRun → Type 0
ReadsAlike P = (w : World) → IsSound w → touched w ≡ reads_of (run_on P (scene_of w))

-- a scene that notes the yard at every mal
abbrev notes_yard : Machine SceneRun
notes_yard = record scene_machine { ask_free = λ x. record x { free_noted = true; yard_noted = true } }

-- The mal finds room, so the world's quantum reads no yard.
pub yard_not_at_every_mal : ReadsAlike notes_yard → ⊥
unfolding scenes
yard_not_at_every_mal law =
    let s : IsSound (start grows) = (serial_is_sound grows 0 (is_setup grows (lit≤ tt) refl) (lit≤ tt)).sound in
    let e : None ≡ Some (yard (start grows)) = ap (λ (r : Reads). r.yard) (law (start grows) s) in
    cc

-- a scene that notes a cell also where this quantum wrote it
abbrev notes_written : Machine SceneRun
notes_written =
    record scene_machine { look = λ x p. record x { cells = (if is_noted x.cells p then x.cells else x.cells ++ (p, slice_index x.now.soup p) ∷ []) } }

-- `dec_c dec_c sub_ac sub_ac sub_ac mov_iab nop_0` copies cell 0 to cell 6 and then runs it
abbrev writes_ahead : SetupFields
writes_ahead = record { settings = hundred; creatures = record { at = 0; code = 10 ∷ 10 ∷ 7 ∷ 7 ∷ 7 ∷ 26 ∷ 0 ∷ [] } ∷ [] }

-- The world's quantum reads cells 0 to 5 and 7 to 24, and cell 6 only after it wrote it.
pub written_not_noted : ReadsAlike notes_written → ⊥
unfolding scenes
written_not_noted law =
    let s : IsSound (start writes_ahead) = (serial_is_sound writes_ahead 0 (is_setup writes_ahead (lit≤ tt) refl) (lit≤ tt)).sound in
    eqb-false 24 25 refl (ap (λ (r : Reads). length r.cells) (law (start writes_ahead) s))
