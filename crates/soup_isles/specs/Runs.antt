-- The epochs of isles.
use Rattle.std.specs.List.{range_with_len}
use Rattle.std.specs.Prelude.{List, map, suc, zero, ℕ, ◌+◌, ◌-◌}
use Rattle.tierra_model.specs.Serial.{serial}
use Rattle.tierra_model.specs.Setups.{SetupFields}
use Rattle.tierra_model.specs.World.{World}
use Rattle.soup_isles.specs.Isles.{isle_seed, next_setups, with_seed}

-- the isle at a place in epoch 1: the file's setup with the isle's seed
unfoldable pub first_setup : SetupFields → ℕ → SetupFields
first_setup setup place =
    record {
      settings = with_seed (isle_seed setup.settings.seed 1 (place + 1)) setup.settings;
      creatures = setup.creatures;
    }

-- the setups of the isles in epoch 1
unfoldable pub first_setups : SetupFields → ℕ → List SetupFields
first_setups setup isles = map (first_setup setup) (range_with_len 0 isles)

-- the worlds of isles at the end of an epoch of n quanta
abbrev pub worlds_of : List SetupFields → ℕ → List World
worlds_of setups n = map (λ s. serial s n) setups

-- the setups of isles after k migrations, each after an epoch of n quanta; k migrations come before epoch k + 1
unfoldable pub setups_after : SetupFields → ℕ → ℕ → ℕ → List SetupFields
setups_after setup isles n zero = first_setups setup isles
setups_after setup isles n (suc k) =
    let setups = setups_after setup isles n k in next_setups setups (worlds_of setups n) setup.settings.seed (k + 2)

-- the worlds of isles at the end of the last epoch
abbrev pub isle_worlds : SetupFields → ℕ → ℕ → ℕ → List World
isle_worlds setup isles epochs n = worlds_of (setups_after setup isles n (epochs - 1)) n
