-- What a world begins with.
use Rattle.std.specs.Prelude.{ℕ, ◌+◌, ◌<◌, ◌≤◌, All, List, [], ◌∷◌, length}
use Rattle.std.proofs.Common.{lit≤}
use Rattle.tierra_model.specs.declared.creatures.Block.{Block}
use Rattle.tierra_model.specs.declared.keys.TheConstants.{SOUP_SIZE, SLICE_SIZE, SLICE_BY_SIZE, SLICE_NUM, SLICE_DEN}
use Rattle.tierra_model.specs.declared.keys.TheConstants.{SEARCH_LIMIT, MIN_TEMPLATE, MIN_CELL, MAX_CELL, MAL_MULT}
use Rattle.tierra_model.specs.declared.keys.TheConstants.{FILL_PERCENT, MOVE_PERCENT, SAVE_AT, BACK_RATE, COPY_RATE}
use Rattle.tierra_model.specs.declared.keys.TheConstants.{FLAW_RATE, SEED, DIST_EVERY, DIST_PERCENT}
use Rattle.tierra_model.specs.declared.parameters.Settings.{Settings}
use Rattle.tierra_model.specs.declared.setups.Inoculum.{Inoculum}
use Rattle.tierra_model.specs.Counting.{one_if, sum_of}
use Rattle.tierra_model.specs.Ranges.{IsCode}
use Rattle.tierra_model.specs.Blocks.{is_in}

-- the fields of a Setup
pub record SetupFields : Type 0 where
  pub settings : Settings
  pub creatures : List Inoculum

abbrev pub block_of : Inoculum → Block
block_of c = record { at = c.at; size = length c.code }

-- there is a creature, the codes lie in the soup, and no two share a cell
pub record IsSetup (setup : SetupFields) : Type 0 where
  pub some : 0 < length setup.creatures
  pub written : All (λ c. IsCode c.code) setup.creatures
  pub placed : All (λ c. c.at + length c.code ≤ setup.settings.soup_size) setup.creatures
  pub apart : (p : ℕ) → sum_of (λ c. one_if (is_in (block_of c) p)) setup.creatures ≤ 1

-- the settings that hold unless others are given
abbrev pub default_settings : Settings
default_settings =
    record {
      soup_size = SOUP_SIZE.default;
      slice_size = SLICE_SIZE.default;
      slice_by_size = SLICE_BY_SIZE;
      slice_num = SLICE_NUM.default;
      slice_den = SLICE_DEN.default;
      search_limit = SEARCH_LIMIT.default;
      min_template = MIN_TEMPLATE.default;
      min_cell = MIN_CELL.default;
      max_cell = MAX_CELL.default;
      mal_mult = MAL_MULT.default;
      fill_percent = FILL_PERCENT.default;
      move_percent = MOVE_PERCENT.default;
      save_at = SAVE_AT.default;
      back_rate = BACK_RATE.default;
      copy_rate = COPY_RATE.default;
      flaw_rate = FLAW_RATE.default;
      seed = SEED;
      dist_every = DIST_EVERY.default;
      dist_percent = DIST_PERCENT.default;
      soup = (lit≤ tt, lit≤ tt);
      slice = (lit≤ tt, lit≤ tt);
      by_size = (lit≤ tt, lit≤ tt, lit≤ tt, lit≤ tt);
      search = (lit≤ tt, lit≤ tt);
      template = (lit≤ tt, lit≤ tt);
      cells = (lit≤ tt, lit≤ tt, lit≤ tt);
      mult = (lit≤ tt, lit≤ tt);
      fill = (lit≤ tt, lit≤ tt);
      moving = lit≤ tt;
      saving = (lit≤ tt, lit≤ tt);
      disturbing = (lit≤ tt, lit≤ tt);
    }

-- the setup of a listing's code: the code at cell 0, with the default settings
abbrev pub setup_for : List ℕ → SetupFields
setup_for code = record { settings = default_settings; creatures = record { at = 0; code = code } ∷ [] }
