-- How a world is filled at the start.
use Rattle.std.specs.Prelude.{All, List, None, false, length, true, ℕ, ◌+◌, ◌<◌, ◌≡◌, ◌≤◌}
use Rattle.tierra_model.specs.declared.limits.TheConstants.{COUNT_END}
use Rattle.tierra_model.specs.Counting.{times_in}
use Rattle.tierra_model.specs.Ranges.{IsCode}
use Rattle.tierra_model.specs.Blocks.{is_in}
use Rattle.tierra_model.specs.Living.{ids_of}
use Rattle.tierra_model.specs.World.{World}
use Rattle.tierra_model.specs.Room.{is_owned}
use Rattle.tierra_model.specs.Events.{with_creature}
use Rattle.tierra_model.specs.Serial.{overwrite}

-- the code in the soup, and its creature in the world
abbrev pub inoculated : World → ℕ → List ℕ → World
inoculated w at code =
    with_creature w.genotypes (record {
      at = at;
      size = length code;
    }) code None 0 (record w { soup = overwrite w.soup at code })

-- the code can be put there, into a world that is being filled
pub record CanInoculate (w : World) (at : ℕ) (code : List ℕ) : Type 0 where
  pub written : IsCode code
  pub lies : at + length code ≤ w.settings.soup_size
  pub free : (p : ℕ) → is_in (record { at = at; size = length code }) p ≡ true → is_owned w.living p ≡ false
  pub cells : length w.soup ≡ w.settings.soup_size
  pub slicer : (id : ℕ) → times_in w.slicer id ≡ times_in (ids_of w.living) id
  pub reaper : (id : ℕ) → times_in w.reaper id ≡ times_in (ids_of w.living) id
  pub fresh : (id : ℕ) → w.next_birth ≤ id → times_in (ids_of w.living) id ≡ 0
  pub some : 1 ≤ w.next_birth
  pub few : w.next_birth < COUNT_END
  pub living : length w.living < w.next_birth
  pub totals : All (λ g. g.total < COUNT_END) w.genotypes
