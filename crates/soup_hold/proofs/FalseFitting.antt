-- A neighbour of the laws on types that is false: the numbers of a sound world need not fit after a quantum.
use Rattle.std.proofs.Common.{◌^◌, ◌<◌, ◌≤◌, [], ◌∷◌, lit≤, refl, arith}
use Rattle.std.specs.Prelude.{All, pos}
use Rattle.std.proofs.lemmas.List.Elements.{All-cons, All-nil}
use Rattle.tierra_model.specs.declared.creatures.Creature.{Creature}
use Rattle.tierra_model.specs.declared.limits.TheConstants.{MOST_QUANTA}
use Rattle.tierra_model.specs.Living.{newborn, nobody}
use Rattle.tierra_model.specs.Quantum.{quantum}
use Rattle.tierra_model.specs.Serial.{start}
use Rattle.tierra_model.specs.Setups.{SetupFields}
use Rattle.tierra_model.specs.Sound.{IsPlaced, IsSound, count_limit}
use Rattle.tierra_model.specs.World.{World}
use Rattle.tierra_model.proofs.Computing.{quanta}
use Rattle.tierra_model.proofs.Examples.{hundred, is_setup, one}
use Rattle.tierra_model.proofs.StartIsSound.{serial_is_sound}
use Rattle.world_state.specs.Restoring.{FitsTypes}

-- five nop_1, whose creature has 2 ^ 31 in dx
abbrev nops : SetupFields
nops = one hundred 90 (1 ∷ 1 ∷ 1 ∷ 1 ∷ 1 ∷ [])

abbrev wide_creature : Creature
wide_creature = record (newborn 1 (record { at = 90; size = 5 }) 0) { dx = pos (2 ^ 31) }

abbrev wide_world : World
wide_world = record (start nops) { living = wide_creature ∷ [] }

wide_sound : IsSound wide_world
unfolding quanta
wide_sound =
    let s = (serial_is_sound nops 0 (is_setup nops (lit≤ tt) refl) (lit≤ tt)).sound in
    record {
      cells = s.cells;
      codes = s.codes;
      some = s.some;
      ordered = s.ordered;
      once = s.once;
      slicer = s.slicer;
      reaper = s.reaper;
      placed = just (IsPlaced 100) (record { own = (lit≤ tt, lit≤ tt, lit≤ tt); daughter = tt });
      apart = s.apart;
      processor = just (λ c. (c.ip < 100) × (c.sp < 10)) (lit≤ tt, lit≤ tt);
      genotype = just (λ c. c.genotype < 1) (lit≤ tt);
      numbers = just (λ c. (1 ≤ c.id) × (c.id < 2)) (lit≤ tt, lit≤ tt);
      births = s.births;
      genotype_count = s.genotype_count;
      living_and_dead = s.living_and_dead;
      quanta = s.quanta;
      next_birth = s.next_birth;
      small = just (λ c. (c.errors ≤ count_limit 0) × (c.moved ≤ count_limit 0) × (c.ran ≤ count_limit 0) × (c.bred ≤ count_limit 0))
          (omega arith, omega arith, omega arith, omega arith);
      coded_once = s.coded_once;
      written = s.written;
      parents = s.parents;
      totals = s.totals;
      efforts = s.efforts;
      saved = s.saved;
      rising = s.rising;
      past = s.past;
      saved_efforts = s.saved_efforts;
      sizes = s.sizes;
    }
  where
    just : (P : Creature → Type 0) → P wide_creature → All P (wide_creature ∷ [])
    just P h = All-cons P wide_creature [] h (All-nil P)

abbrev SoundFits : Type 0
SoundFits = (w : World) → IsSound w → w.quanta < MOST_QUANTA → FitsTypes (quantum w)

-- No nop writes dx.
pub types_needed : SoundFits → ⊥
unfolding quanta
types_needed claim =
    let h = (claim wide_world wide_sound (lit≤ tt)).creatures 0 nobody (lit≤ tt) in
    let low : 2 ^ 31 < 2 ^ 31 = h.dx.sfits in
    absurd (omega (arith, low))
