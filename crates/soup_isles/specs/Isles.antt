-- Isles: soups side by side, which run in epochs. Each isle begins an epoch anew, with those who lived in it and a
-- migrant from the isle before it. Isles and epochs are numbered from 1, and places in a list are counted from 0.
use Rattle.std.specs.List.{list_any, range_with_len}
use Rattle.std.specs.Prelude.{Bool, List, None, Some, [], if◌then◌else◌, length, map, slice_index_or, slice_range, ℕ}
use Rattle.std.specs.Prelude.{◌++◌, ◌+◌, ◌-◌, ◌==◌, ◌∷◌}
use Rattle.sha2.specs.Sha256.{sha256}
use Rattle.tierra_model.specs.declared.creatures.Creature.{Creature}
use Rattle.tierra_model.specs.declared.parameters.Settings.{Settings}
use Rattle.tierra_model.specs.declared.setups.Inoculum.{Inoculum}
use Rattle.tierra_model.specs.Blocks.{is_in}
use Rattle.tierra_model.specs.Living.{one_of}
use Rattle.tierra_model.specs.Room.{first_fit}
use Rattle.tierra_model.specs.Serial.{empty_world}
use Rattle.tierra_model.specs.Setups.{SetupFields, block_of, default_settings, setup_for}
use Rattle.tierra_model.specs.World.{World, front}
use Rattle.byte_fields.specs.Writing.{eight}

-- ---- seeds

-- the seed of an isle in an epoch: the digest of the file's seed and of both numbers, each in eight bytes, the most
-- significant first
unfoldable pub isle_seed : List ℕ → ℕ → ℕ → List ℕ
isle_seed seed epoch isle = sha256 (seed ++ eight epoch ++ eight isle)

abbrev pub with_seed : List ℕ → Settings → Settings
with_seed seed s = record s { seed = seed }

-- ---- who begins an epoch

-- the address and the content of the creature's own block
abbrev pub settler : World → Creature → Inoculum
settler w c = record { at = c.own.at; code = slice_range w.soup c.own.at (c.own.at + c.own.size) }

-- those who live in the world, in the order of the slicer queue
unfoldable pub settlers : World → List Inoculum
settlers w = map (λ id. settler w (one_of w.living id)) w.slicer

-- the cell is in the block of one of them
abbrev pub is_settled : List Inoculum → ℕ → Bool
is_settled creatures p = list_any (λ c. is_in (block_of c) p) creatures

-- the content of the own block of the creature at the front
unfoldable pub emigrant : World → List ℕ
emigrant w = (settler w (front w)).code

-- The migrant comes last, at the least address where its code lies in the soup and shares no cell with the others.
-- Where there is none, it does not come. (That `first_fit` is the least one is the law `first_fit_is_least` of the
-- model.)
unfoldable pub with_migrant : ℕ → List Inoculum → List ℕ → List Inoculum
with_migrant size creatures code =
    elim (first_fit size (is_settled creatures) (length code)) [
      | None ↦ creatures
      | Some at ↦ creatures ++ record { at = at; code = code } ∷ []
    ]

-- ---- the isles together

-- the world and the setup at a place of the list
abbrev pub world_at : List World → ℕ → World
world_at worlds place = slice_index_or worlds place (empty_world default_settings)

abbrev pub setup_at : List SetupFields → ℕ → SetupFields
setup_at setups place = slice_index_or setups place (setup_for [])

-- the place of the isle before, in a ring of `count` isles
abbrev pub place_before : ℕ → ℕ → ℕ
place_before count place = if place == 0 then count - 1 else place - 1

-- who begins the next epoch on an isle; on the only isle no migrant comes
unfoldable pub next_creatures : List World → ℕ → List Inoculum
next_creatures worlds place =
    let w = world_at worlds place in
    if length worlds == 1 then settlers w
    else with_migrant w.settings.soup_size (settlers w)
    (emigrant (world_at worlds (place_before (length worlds) place)))

-- the settings of the isle, with its seed in the epoch, and who begins it
unfoldable pub next_setup : List SetupFields → List World → List ℕ → ℕ → ℕ → SetupFields
next_setup setups worlds seed epoch place =
    record {
      settings = with_seed (isle_seed seed epoch (place + 1)) (setup_at setups place).settings;
      creatures = next_creatures worlds place;
    }

-- the setups of all isles in the epoch, from the setups and worlds of the epoch before
unfoldable pub next_setups : List SetupFields → List World → List ℕ → ℕ → List SetupFields
next_setups setups worlds seed epoch = map (next_setup setups worlds seed epoch) (range_with_len 0 (length setups))
