-- The settings of a soup file.
use Rattle.std.specs.Prelude.{ℕ, ◌≡◌, Bool, List, [], ◌∷◌, if◌then◌else◌, nat_lt, Option, Some, None, Result, Ok, Err}
use Rattle.std.specs.Result.{result_err}
use Rattle.toml.specs.Data.{Members}
use Rattle.tierra_model.specs.declared.keys.Number.{Number}
use Rattle.tierra_model.specs.declared.keys.TheConstants.{SOUP_SIZE, SLICE_SIZE, SLICE_BY_SIZE, SLICE_NUM, SLICE_DEN}
use Rattle.tierra_model.specs.declared.keys.TheConstants.{SEARCH_LIMIT, MIN_TEMPLATE, MIN_CELL, MAX_CELL, MAL_MULT}
use Rattle.tierra_model.specs.declared.keys.TheConstants.{FILL_PERCENT, MOVE_PERCENT, SAVE_AT, BACK_RATE, COPY_RATE}
use Rattle.tierra_model.specs.declared.keys.TheConstants.{FLAW_RATE, SEED, DIST_EVERY, DIST_PERCENT}
use Rattle.tierra_model.specs.declared.parameters.Settings.{Settings}
use Rattle.soup_file.specs.declared.key.Key.{Key}
use Rattle.soup_file.specs.declared.key.Key.TheVariants.{SoupSize, SliceSize, SliceBySize, SliceNum, SliceDen}
use Rattle.soup_file.specs.declared.key.Key.TheVariants.{SearchLimit, MinTemplate, MinCell, MaxCell, MalMult}
use Rattle.soup_file.specs.declared.key.Key.TheVariants.{FillPercent, MovePercent, SaveAt, BackRate, CopyRate, FlawRate}
use Rattle.soup_file.specs.declared.key.Key.TheVariants.{Seed, DistEvery, DistPercent}
use Rattle.soup_file.specs.declared.key.KeyFault.{KeyFault}
use Rattle.soup_file.specs.declared.key.KeyFault.TheVariants.{OutOfRange}
use Rattle.soup_file.specs.Keys.{bytes_in, flag_in, number_in, read_at}

-- the number at a key, in its range, or its default
abbrev pub number_of : Key → Number → Members → Result ℕ KeyFault
number_of key n document = read_at key (number_in key n.least n.greatest) (Ok n.default) document

abbrev pub soup_size_of : Members → Result ℕ KeyFault
soup_size_of = number_of SoupSize SOUP_SIZE

abbrev pub slice_size_of : Members → Result ℕ KeyFault
slice_size_of = number_of SliceSize SLICE_SIZE

abbrev pub slice_by_size_of : Members → Result Bool KeyFault
slice_by_size_of document = read_at SliceBySize (flag_in SliceBySize) (Ok SLICE_BY_SIZE) document

abbrev pub slice_num_of : Members → Result ℕ KeyFault
slice_num_of = number_of SliceNum SLICE_NUM

abbrev pub slice_den_of : Members → Result ℕ KeyFault
slice_den_of = number_of SliceDen SLICE_DEN

abbrev pub search_limit_of : Members → Result ℕ KeyFault
search_limit_of = number_of SearchLimit SEARCH_LIMIT

abbrev pub min_template_of : Members → Result ℕ KeyFault
min_template_of = number_of MinTemplate MIN_TEMPLATE

abbrev pub min_cell_of : Members → Result ℕ KeyFault
min_cell_of = number_of MinCell MIN_CELL

abbrev pub max_cell_of : Members → Result ℕ KeyFault
max_cell_of = number_of MaxCell MAX_CELL

abbrev pub mal_mult_of : Members → Result ℕ KeyFault
mal_mult_of = number_of MalMult MAL_MULT

abbrev pub fill_percent_of : Members → Result ℕ KeyFault
fill_percent_of = number_of FillPercent FILL_PERCENT

abbrev pub move_percent_of : Members → Result ℕ KeyFault
move_percent_of = number_of MovePercent MOVE_PERCENT

abbrev pub save_at_of : Members → Result ℕ KeyFault
save_at_of = number_of SaveAt SAVE_AT

abbrev pub back_rate_of : Members → Result ℕ KeyFault
back_rate_of = number_of BackRate BACK_RATE

abbrev pub copy_rate_of : Members → Result ℕ KeyFault
copy_rate_of = number_of CopyRate COPY_RATE

abbrev pub flaw_rate_of : Members → Result ℕ KeyFault
flaw_rate_of = number_of FlawRate FLAW_RATE

abbrev pub seed_of : Members → Result (List ℕ) KeyFault
seed_of document = read_at Seed (bytes_in Seed) (Ok SEED) document

abbrev pub dist_every_of : Members → Result ℕ KeyFault
dist_every_of = number_of DistEvery DIST_EVERY

abbrev pub dist_percent_of : Members → Result ℕ KeyFault
dist_percent_of = number_of DistPercent DIST_PERCENT

-- the greatest number of cells is below the least
abbrev pub crossed : Result ℕ KeyFault → Result ℕ KeyFault → Option KeyFault
crossed (Ok low) (Ok high) = if nat_lt high low then Some (OutOfRange MaxCell) else None
crossed (Ok low) (Err fault) = None
crossed (Err fault) high = None

-- the checks of the settings, in order, each with its fault if it fails
unfoldable pub setting_checks : Members → List (Option KeyFault)
setting_checks document =
    result_err (soup_size_of document)
    ∷ result_err (slice_size_of document)
    ∷ result_err (slice_by_size_of document)
    ∷ result_err (slice_num_of document)
    ∷ result_err (slice_den_of document)
    ∷ result_err (search_limit_of document)
    ∷ result_err (min_template_of document)
    ∷ result_err (min_cell_of document)
    ∷ result_err (max_cell_of document)
    ∷ result_err (mal_mult_of document)
    ∷ result_err (fill_percent_of document)
    ∷ result_err (move_percent_of document)
    ∷ result_err (save_at_of document)
    ∷ result_err (back_rate_of document)
    ∷ result_err (copy_rate_of document)
    ∷ result_err (flaw_rate_of document)
    ∷ result_err (seed_of document)
    ∷ result_err (dist_every_of document)
    ∷ result_err (dist_percent_of document)
    ∷ crossed (min_cell_of document) (max_cell_of document)
    ∷ []

-- the settings of a document
pub record AreSettingsOf (document : Members) (settings : Settings) : Type 0 where
  pub soup_size : soup_size_of document ≡ Ok settings.soup_size
  pub slice_size : slice_size_of document ≡ Ok settings.slice_size
  pub slice_by_size : slice_by_size_of document ≡ Ok settings.slice_by_size
  pub slice_num : slice_num_of document ≡ Ok settings.slice_num
  pub slice_den : slice_den_of document ≡ Ok settings.slice_den
  pub search_limit : search_limit_of document ≡ Ok settings.search_limit
  pub min_template : min_template_of document ≡ Ok settings.min_template
  pub min_cell : min_cell_of document ≡ Ok settings.min_cell
  pub max_cell : max_cell_of document ≡ Ok settings.max_cell
  pub mal_mult : mal_mult_of document ≡ Ok settings.mal_mult
  pub fill_percent : fill_percent_of document ≡ Ok settings.fill_percent
  pub move_percent : move_percent_of document ≡ Ok settings.move_percent
  pub save_at : save_at_of document ≡ Ok settings.save_at
  pub back_rate : back_rate_of document ≡ Ok settings.back_rate
  pub copy_rate : copy_rate_of document ≡ Ok settings.copy_rate
  pub flaw_rate : flaw_rate_of document ≡ Ok settings.flaw_rate
  pub seed : seed_of document ≡ Ok settings.seed
  pub dist_every : dist_every_of document ≡ Ok settings.dist_every
  pub dist_percent : dist_percent_of document ≡ Ok settings.dist_percent
