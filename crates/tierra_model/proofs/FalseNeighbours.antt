-- Neighbours of the laws on worlds, searches, lists and the genebank that are false: each fails in a small case.
use Rattle.std.proofs.Common.{◌≡◌, ℕ, zero, suc, ◌+◌, ◌-◌, ◌*◌, ◌/◌, ◌^◌, ◌<◌, ◌≤◌, ◌≢◌, Bool, true, false, List, [], ◌∷◌, lit≤, refl, ap, arith, drop, length}
use Rattle.std.specs.Prelude.{Some, None, Option, All, pos, ◌==◌, ◌%◌, if◌then◌else◌, slice_index}
use Rattle.std.proofs.lemmas.Bool.{eqb-false}
use Rattle.std.proofs.lemmas.Bool.Decides.{nat_tests}
use Rattle.std.proofs.lemmas.List.Elements.{All-nil, All-cons, All-head}
use Rattle.tierra_model.specs.declared.limits.TheConstants.{MOST_QUANTA}
use Rattle.tierra_model.specs.declared.creatures.Block.{Block}
use Rattle.tierra_model.specs.declared.creatures.Creature.{Creature}
use Rattle.tierra_model.specs.declared.history.Stale.{Stale}
use Rattle.tierra_model.specs.declared.history.Stale.TheVariants as stale
use Rattle.tierra_model.specs.declared.searching.Way.{Way}
use Rattle.tierra_model.specs.declared.searching.Way.TheVariants.{Outward}
use Rattle.tierra_model.specs.declared.searching.Found.TheVariants as found
use Rattle.tierra_model.specs.Look.{answer}
use Rattle.tierra_model.specs.Search.{search_for}
use Rattle.tierra_model.specs.Counting.{times_in}
use Rattle.tierra_model.specs.Quantum.{disturb, reap_times, world_machine}
use Rattle.tierra_model.specs.Nearest.{Side, OnForward, OnBackward, Matches, candidate, nops}
use Rattle.tierra_model.specs.Room.{first_fit, HasRoom}
use Rattle.tierra_model.specs.Living.{newborn}
use Rattle.tierra_model.specs.World.{World, front}
use Rattle.tierra_model.specs.Sound.{IsPlaced, IsSound, count_limit}
use Rattle.tierra_model.specs.Laws.{StaysSound, IsSerialRun, TurnsSound}
use Rattle.tierra_model.specs.Setups.{SetupFields, IsSetup}
use Rattle.tierra_model.specs.Serial.{start, serial}
use Rattle.tierra_model.specs.FreeList.{free_list}
use Rattle.tierra_model.specs.Yard.{yard}
use Rattle.tierra_model.specs.Reads.{Reads}
use Rattle.tierra_model.specs.Findings.{Agrees}
use Rattle.tierra_model.specs.Difference.{ListDifference, list_difference, same_block, or_else, of_cells, of_free, of_yard}
use Rattle.tierra_model.specs.Groups.{GroupFields, payload_size}
use Rattle.tierra_model.specs.Genebank.{bank, groups_of}
use Rattle.tierra_model.proofs.StartIsSound.{serial_is_sound}
use Rattle.tierra_model.proofs.Examples.{four, hundred, soon, two, is_setup}
use Rattle.tierra_model.proofs.SearchRows.{sixteen}
use Rattle.tierra_model.proofs.Computing.{quanta, searches}

-- ---- sound worlds

abbrev SoundBelow : ℕ → Type 0
SoundBelow n = (w : World) → IsSound w → w.quanta < n → StaysSound w

-- A world after 4,000,000 quanta is sound, and after one more it is not.
pub not_below_five_million : SoundBelow 5000000 → ⊥
not_below_five_million claim =
    let last = serial_is_sound two MOST_QUANTA (is_setup two (lit≤ tt) refl) (lit≤ tt) in
    let next = claim (serial two MOST_QUANTA) last.sound (omega (arith, last.quanta)) in
    omega (arith, next.sound.quanta, next.quanta, last.quanta)

abbrev SerialTo : ℕ → Type 0
SerialTo most = (setup : SetupFields) (n : ℕ) → IsSetup setup → n ≤ most → IsSerialRun setup n

pub not_to_five_million : SerialTo 5000000 → ⊥
not_to_five_million claim =
    let last = claim two 5000000 (is_setup two (lit≤ tt) refl) (lit≤ tt) in
    omega (arith, last.sound.quanta, last.quanta)

-- Turned to a number that nobody living has, a world has another creature at the front.
abbrev TurnsToAny : Type 0
TurnsToAny = (w : World) (q id : ℕ) → IsSound w → w.quanta + 1 ≤ q → q ≤ MOST_QUANTA → TurnsSound w q id

pub not_to_anyone : TurnsToAny → ⊥
unfolding quanta
not_to_anyone claim =
    let s = serial_is_sound two 0 (is_setup two (lit≤ tt) refl) (lit≤ tt) in
    eqb-false 1 3 refl (claim (start two) 1 3 s.sound (lit≤ tt) (lit≤ tt)).front

abbrev TurnsBack : Type 0
TurnsBack = (w : World) (q id : ℕ) → IsSound w → 1 ≤ q → q ≤ MOST_QUANTA → 0 < times_in w.slicer id → TurnsSound w q id

-- `mal` of 12 cells and `divide`, where a daughter may be born with nothing copied, and one individual is enough
abbrev breeds : SetupFields
breeds =
    record {
      settings = record hundred { save_at = 1; move_percent = 0; saving = (lit≤ tt, lit≤ tt); moving = lit≤ tt };
      creatures = record { at = 0; code = 4 ∷ 2 ∷ 3 ∷ 2 ∷ 3 ∷ 3 ∷ 30 ∷ 31 ∷ [] } ∷ [];
    }

-- Turned back to before quantum 1, the world after it has saved a genotype in a quantum that is still to come.
pub not_back : TurnsBack → ⊥
unfolding quanta
not_back claim =
    let s = serial_is_sound breeds 1 (is_setup breeds (lit≤ tt) refl) (lit≤ tt) in
    let past : 1 ≤ 0 =
    (claim (serial breeds 1) 1 1 s.sound (lit≤ tt) (lit≤ tt) (lit≤ tt)).sound.past 1 (record {
      genotype = 0;
      quantum = 0;
      first_effort = None;
      second_effort = None;
    }) (lit≤ tt) in
    omega arith

-- ---- the disturbance

abbrev CountsOthers : Type 0
CountsOthers = (w : World) → IsSound w
    → disturb world_machine w.settings true w
    ≡ reap_times world_machine w.settings ((length w.living - 1) * w.settings.dist_percent / 100) w

-- Half of four creatures are two, and half of the three that do not run would be one.
pub not_others : CountsOthers → ⊥
unfolding quanta
not_others claim =
    let s = serial_is_sound four 0 (is_setup four (lit≤ tt) refl) (lit≤ tt) in
    eqb-false 2 1 refl (ap (λ (v : World). v.deaths) (claim (start four) s.sound))

-- ---- searches

-- backward is tried before forward at the same distance
abbrev IsBehind : Side → ℕ → Side → ℕ → Type 0
IsBehind OnBackward c OnBackward d = c < d
IsBehind OnBackward c OnForward d = c ≤ d
IsBehind OnForward c side d = c < d

abbrev BackwardFirst : Type 0
BackwardFirst = (n : ℕ) (cells : ℕ → ℕ) (ip : ℕ) (way : Way) (limit min p : ℕ) → answer (search_for n ip way limit min) cells ≡ found.At p
    → (side : Side) × (d : ℕ) × Matches n cells ip way limit min side d
    × (p ≡ (candidate n ip (length (nops n cells ip way limit min)) side d + length (nops n cells ip way limit min)) % n)
    × ((s : Side) (c : ℕ) → IsBehind s c side d → Matches n cells ip way limit min s c → ⊥)

-- A nop_0 at 9, and nop_1 at 6 and 11, which are at distance 2 of an instruction at 8.
abbrev Hits : Side → ℕ → Type 0
Hits = Matches 16 (slice_index sixteen) 8 Outward 2 1

-- The search goes to 12, after the match on the forward side.
pub not_backward_first : BackwardFirst → ⊥
unfolding searches
not_backward_first claim = (let r = claim 16 (slice_index sixteen) 8 Outward 2 1 12 refl in go r.0 r.1 r.2 r.3 r.4)
  where
    behind : Hits OnBackward 2
    behind = (refl, lit≤ tt, lit≤ tt, refl)

    go : (side : Side) (d : ℕ) → Hits side d → 12 ≡ (candidate 16 8 1 side d + 1) % 16 → ((s : Side) (c : ℕ) → IsBehind s c side d → Hits s c → ⊥) → ⊥
    go side zero m e none = omega (arith, m.1)
    go OnForward (suc zero) m e none = (let f : false ≡ true = m.3 in cc)
    go OnBackward (suc zero) m e none = (let f : false ≡ true = m.3 in cc)
    go OnForward (suc (suc zero)) m e none = none OnBackward 2 (lit≤ tt) behind
    go OnBackward (suc (suc zero)) m e none = eqb-false 12 7 refl e
    go side (suc (suc (suc k))) m e none = omega (arith, m.2)

-- ---- where a block fits

abbrev GreatestFit : Type 0
GreatestFit = (n : ℕ) (owned : ℕ → Bool) (size a : ℕ) → first_fit n owned size ≡ Some a → (b : ℕ) → a < b → HasRoom n owned size b → ⊥

-- In two free cells one cell fits at 0, and also at 1.
pub not_greatest_fit : GreatestFit → ⊥
not_greatest_fit claim = claim 2 (λ p. false) 1 0 refl 1 (lit≤ tt) (lit≤ tt, λ p low high. refl)

-- ---- the genebank

abbrev BankBelow : (ℕ → ℕ) → Type 0
BankBelow number = (setup : SetupFields) (n : ℕ) → IsSetup setup → n ≤ MOST_QUANTA → groups_of (serial setup n) ≡ bank setup (number n)

-- The start saves a group, which a bank of the quanta below 0 has not.
pub not_one_quantum_less : BankBelow (λ n. n) → ⊥
unfolding bank quanta
not_one_quantum_less claim = eqb-false 1 0 refl (ap length (claim soon 0 (is_setup soon (lit≤ tt) refl) (lit≤ tt)))

-- Quantum 1 saves the daughter, whom the start does not have.
pub not_one_quantum_more : BankBelow (λ n. n + 2) → ⊥
unfolding bank quanta
not_one_quantum_more claim = eqb-false 1 2 refl (ap length (claim breeds 0 (is_setup breeds (lit≤ tt) refl) (lit≤ tt)))

abbrev PayloadBelow : ℕ → Type 0
PayloadBelow most = (setup : SetupFields) (n : ℕ) → IsSetup setup → n ≤ MOST_QUANTA → All (λ g. payload_size g < most) (bank setup (n + 1))

-- The group of two small creatures has 131 bytes.
pub not_below_131 : PayloadBelow 131 → ⊥
unfolding bank quanta
not_below_131 claim = omega (arith, All-head (λ (g : GroupFields). payload_size g < 131) _ [] (claim soon 0 (is_setup soon (lit≤ tt) refl) (lit≤ tt)))

-- ---- differences

-- the first difference, but for that of the records
abbrev without_body : Reads → Creature → World → Option Stale
without_body reads c w =
    or_else (if c.id == (front w).id then None else Some (stale.Front c.id (front w).id))
    (or_else (of_cells reads.cells w.soup) (or_else (of_free reads.free (free_list w)) (of_yard reads.yard (yard w))))

abbrev TellsWithoutBody : Type 0
TellsWithoutBody = (reads : Reads) (c : Creature) (w : World) → without_body reads c w ≡ None → Agrees reads c w

-- a creature of the same number with 5 in ax
pub body_needed : TellsWithoutBody → ⊥
unfolding quanta
body_needed claim =
    let w : World = start two in
    let r = claim (record { cells = []; free = None; yard = None }) (record (front w) { ax = pos 5 }) w refl in
    let e : pos 0 ≡ pos 5 = ap (λ (c : Creature). c.ax) r.front in
    cc

abbrev LastPlace : Type 0
LastPlace = (seen now : List Block) (d : ListDifference Block) → list_difference same_block 0 seen now ≡ Some d
    → drop (d.place + 1) seen ≡ drop (d.place + 1) now

-- The lists differ at place 0, and at place 1 too.
pub not_last_place : LastPlace → ⊥
not_last_place claim =
    let a : Block = record { at = 0; size = 1 } in
    let b : Block = record { at = 0; size = 2 } in
    let e : a ∷ [] ≡ b ∷ [] = claim (a ∷ a ∷ []) (b ∷ b ∷ []) (record { place = 0; seen = Some a; now = Some b }) refl in
    let f : a ≡ b = cc in
    eqb-false 1 2 refl (ap (λ (x : Block). x.size) f)

-- ---- the numbers of newborns

abbrev NobodyFrom : ℕ → Type 0
NobodyFrom n = (w : World) (k : ℕ) → IsSound w → All (λ c. c.id ≢ n + k) w.living

-- a world whose one creature was born as number 2 ^ 39
abbrev late_creature : Creature
late_creature = newborn (2 ^ 39) (record { at = 0; size = 8 }) 0

abbrev late_world : World
late_world =
    record (start breeds) {
      living = late_creature ∷ [];
      slicer = 2 ^ 39 ∷ [];
      reaper = 2 ^ 39 ∷ [];
      deaths = 2 ^ 39 - 1;
      next_birth = 2 ^ 39 + 1;
    }

late_sound : IsSound late_world
unfolding quanta
late_sound =
    let s = (serial_is_sound breeds 0 (is_setup breeds (lit≤ tt) refl) (lit≤ tt)).sound in
    record {
      cells = s.cells;
      codes = s.codes;
      some = lit≤ tt;
      ordered = (lit≤ tt, tt);
      once = λ id. grind (arith, nat_tests);
      slicer = λ id. refl;
      reaper = λ id. refl;
      placed = one (IsPlaced 100) (record { own = (lit≤ tt, lit≤ tt, lit≤ tt); daughter = tt });
      apart = s.apart;
      processor = one (λ c. (c.ip < 100) × (c.sp < 10)) (lit≤ tt, lit≤ tt);
      genotype = one (λ c. c.genotype < 1) (lit≤ tt);
      numbers = one (λ c. (1 ≤ c.id) × (c.id < 2 ^ 39 + 1)) (lit≤ tt, omega arith);
      births = omega arith;
      genotype_count = omega arith;
      living_and_dead = refl;
      quanta = s.quanta;
      next_birth = omega arith;
      small = one (λ c. (c.errors ≤ count_limit 0) × (c.moved ≤ count_limit 0) × (c.ran ≤ count_limit 0) × (c.bred ≤ count_limit 0))
          (omega arith, omega arith, omega arith, omega arith);
      coded_once = s.coded_once;
      written = s.written;
      parents = s.parents;
      totals = s.totals;
      efforts = s.efforts;
      saved = s.saved;
      rising = s.rising;
      past = s.past;
      saved_efforts = s.saved_efforts;
      sizes = s.sizes;
    }
  where
    one : (P : Creature → Type 0) → P late_creature → All P (late_creature ∷ [])
    one P h = All-cons P late_creature [] h (All-nil P)

-- Birth numbers of sound worlds reach above 2 ^ 39.
pub not_from_two_to_39 : NobodyFrom (2 ^ 39) → ⊥
not_from_two_to_39 claim = All-head (λ (c : Creature). c.id ≢ 2 ^ 39) late_creature [] (claim late_world 0 late_sound) refl
