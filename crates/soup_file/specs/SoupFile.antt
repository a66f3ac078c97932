-- The setup that a soup file spells, and the fault of bytes that are no soup file.
use Rattle.std.specs.Prelude.{ℕ, ◌≡◌, ◌⊎◌, List, [], ◌∷◌, ◌++◌, IsUtf8, map, option_map, Option, Some, None, Result, Ok}
use Rattle.std.specs.Prelude.{Err}
use Rattle.std.specs.Result.{result_err}
use Rattle.toml.specs.Data.{Members}
use Rattle.toml.specs.Parse.{parse_document}
use Rattle.tierra_model.specs.Setups.{SetupFields}
use Rattle.soup_file.specs.declared.fault.FileFault.{FileFault}
use Rattle.soup_file.specs.declared.fault.FileFault.TheVariants.{NotToml}
use Rattle.soup_file.specs.declared.key.Key.{Key}
use Rattle.soup_file.specs.declared.key.Key.TheVariants.{SoupSize, SliceSize, SliceBySize, SliceNum, SliceDen}
use Rattle.soup_file.specs.declared.key.Key.TheVariants.{SearchLimit, MinTemplate, MinCell, MaxCell, MalMult}
use Rattle.soup_file.specs.declared.key.Key.TheVariants.{FillPercent, MovePercent, SaveAt, BackRate, CopyRate, FlawRate}
use Rattle.soup_file.specs.declared.key.Key.TheVariants.{Seed, DistEvery, DistPercent, Creature}
use Rattle.soup_file.specs.declared.key.KeyFault.{KeyFault}
use Rattle.soup_file.specs.Keys.{file_fault, first_fault, unknown_key}
use Rattle.soup_file.specs.Settings.{AreSettingsOf, setting_checks, soup_size_of}
use Rattle.soup_file.specs.Creatures.{all_creature_checks, creature_tables, inocula_of}

-- the document that the bytes are, as `toml` reads it
abbrev pub IsDocument : List ℕ → Members → Type 0
IsDocument bytes document = IsUtf8 bytes × (parse_document bytes ≡ Some document)

-- the keys of a document
abbrev pub top_keys : List Key
top_keys =
    SoupSize ∷ SliceSize ∷ SliceBySize ∷ SliceNum ∷ SliceDen ∷ SearchLimit ∷ MinTemplate ∷ MinCell ∷ MaxCell ∷ MalMult
    ∷ FillPercent ∷ MovePercent ∷ SaveAt ∷ BackRate ∷ CopyRate ∷ FlawRate ∷ Seed ∷ DistEvery ∷ DistPercent ∷ Creature
    ∷ []

abbrev pub checks_of_tables : Result ℕ KeyFault → Result (List Members) FileFault → List (Option FileFault)
checks_of_tables (Ok size) (Ok creatures) = all_creature_checks size creatures
checks_of_tables (Ok size) (Err fault) = []
checks_of_tables (Err fault) creatures = []

-- all checks of a document, in order, each with its fault if it fails
unfoldable pub checks_of : Members → List (Option FileFault)
checks_of document =
    unknown_key [] top_keys document
    ∷ (map (option_map file_fault) (setting_checks document)
    ++ result_err (creature_tables document)
    ∷ checks_of_tables (soup_size_of document) (creature_tables document))

-- the document spells the setup
pub record IsSetupOf (document : Members) (setup : SetupFields) : Type 0 where
  pub creatures : List Members
  pub passes : first_fault (checks_of document) ≡ None
  pub settings : AreSettingsOf document setup.settings
  pub tables : creature_tables document ≡ Ok creatures
  pub inocula : map Some setup.creatures ≡ inocula_of setup.settings.soup_size creatures

-- the bytes are a soup file of the setup
abbrev pub IsSoupFile : List ℕ → SetupFields → Type 0
IsSoupFile bytes setup = (document : Members) × IsDocument bytes document × IsSetupOf document setup

-- the fault of bytes that are no soup file: they are no document, or the first check that fails
abbrev pub IsFaultOf : List ℕ → FileFault → Type 0
IsFaultOf bytes fault =
    ((fault ≡ NotToml) × (IsUtf8 bytes → parse_document bytes ≡ None))
    ⊎ ((document : Members) × IsDocument bytes document × (first_fault (checks_of document) ≡ Some fault))
