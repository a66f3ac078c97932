-- The creatures of a soup file.
use Rattle.std.specs.Prelude.{ℕ, ◌+◌, ◌-◌, ◌≤◌, ◌&&◌, All, Bool, false, List, [], ◌∷◌, ◌++◌, flat_map, if◌then◌else◌}
use Rattle.std.specs.Prelude.{length, map, nat_lt, option_map, position, take, Option, Some, None, Result, Ok, Err}
use Rattle.std.specs.List.{enumerate_from}
use Rattle.std.specs.Result.{result_err}
use Rattle.toml.specs.Data.{Data, as_array, as_table, Items, no_items, item, Members}
use Rattle.tierra_model.specs.declared.setups.Inoculum.{Inoculum}
use Rattle.tierra_model.specs.Blocks.{is_in}
use Rattle.tierra_model.specs.Counting.{one_if, sum_of}
use Rattle.tierra_model.specs.Ranges.{IsCode}
use Rattle.tierra_model.specs.Setups.{block_of}
use Rattle.tierra_asm.specs.declared.AsmFault.{AsmFault}
use Rattle.tierra_asm.specs.Listing.{listing_of}
use Rattle.soup_file.specs.declared.fault.FileFault.{FileFault}
use Rattle.soup_file.specs.declared.fault.FileFault.TheVariants.{Listing, NoCreature, Overlap}
use Rattle.soup_file.specs.declared.key.Key.TheVariants.{Creature, At, Code}
use Rattle.soup_file.specs.declared.key.KeyFault.{KeyFault}
use Rattle.soup_file.specs.declared.key.KeyFault.TheVariants.{Missing, OutOfRange, WrongKind}
use Rattle.soup_file.specs.Keys.{file_fault, in_a_creature, number_in, read_at, text_in, unknown_key}

-- the items as tables, if each is one
abbrev pub and_tables : Option Members → Option (List Members) → Option (List Members)
and_tables None rest = None
and_tables (Some first) None = None
and_tables (Some first) (Some rest) = Some (first ∷ rest)

abbrev pub tables_of : Items → Option (List Members)
tables_of no_items = Some []
tables_of (item value items) = and_tables (as_table value) (tables_of items)

abbrev pub some_tables : Option (List Members) → Result (List Members) FileFault
some_tables None = Err (file_fault (WrongKind Creature))
some_tables (Some []) = Err NoCreature
some_tables (Some (first ∷ rest)) = Ok (first ∷ rest)

abbrev pub tables_from : Option Items → Result (List Members) FileFault
tables_from None = Err (file_fault (WrongKind Creature))
tables_from (Some items) = some_tables (tables_of items)

abbrev pub tables_in : Data → Result (List Members) FileFault
tables_in value = tables_from (as_array value)

-- the tables of the creatures, at least one
unfoldable pub creature_tables : Members → Result (List Members) FileFault
creature_tables document = read_at Creature tables_in (Err NoCreature) document

-- the place of a creature in a soup of this size
unfoldable pub place_of : ℕ → Members → Result ℕ KeyFault
place_of size creature = read_at At (number_in At 0 (size - 1)) (Err (Missing At)) creature

-- the listing of a creature
unfoldable pub text_of : Members → Result (List ℕ) KeyFault
text_of creature = read_at Code (text_in Code) (Err (Missing Code)) creature

abbrev pub in_creature : ℕ → Result (List ℕ) AsmFault → Result (List ℕ) FileFault
in_creature number (Ok code) = Ok code
in_creature number (Err fault) = Err (Listing number fault)

abbrev pub code_from : ℕ → Result (List ℕ) KeyFault → Result (List ℕ) FileFault
code_from number (Ok text) = in_creature number (listing_of text)
code_from number (Err fault) = Err (file_fault fault)

-- the code of the creature with this number
unfoldable pub code_of : ℕ → Members → Result (List ℕ) FileFault
code_of number creature = code_from number (text_of creature)

abbrev pub inoculum_from : Result ℕ KeyFault → Result (List ℕ) FileFault → Option Inoculum
inoculum_from (Ok at) (Ok code) = Some (record { at = at; code = code })
inoculum_from (Ok at) (Err fault) = None
inoculum_from (Err fault) code = None

-- the creature with this number, if it has a place and a code
unfoldable pub inoculum_of : ℕ → ℕ × Members → Option Inoculum
inoculum_of size (number, creature) = inoculum_from (place_of size creature) (code_of number creature)

-- all creatures, numbered from 1
abbrev pub inocula_of : ℕ → List Members → List (Option Inoculum)
inocula_of size creatures = map (inoculum_of size) (enumerate_from 1 creatures)

-- the creature ends past the last cell
abbrev pub past_end : ℕ → Option Inoculum → Option FileFault
past_end size None = None
past_end size (Some c) = if nat_lt size (c.at + length c.code) then Some (file_fault (OutOfRange At)) else None

-- the two share a cell: each begins before the other ends
abbrev pub share_a_cell : Inoculum → Inoculum → Bool
share_a_cell c d = nat_lt c.at (d.at + length d.code) && nat_lt d.at (c.at + length c.code)

abbrev pub do_share : Option Inoculum → Option Inoculum → Bool
do_share (Some c) (Some d) = share_a_cell c d
do_share (Some c) None = false
do_share None d = false

-- the fault of a creature that shares a cell with earlier ones; it names the first of them
abbrev pub overlap : ℕ → List (Option Inoculum) → Option Inoculum → Option FileFault
overlap number earlier creature =
    option_map (λ place. Overlap (place + 1) number) (position (λ other. do_share other creature) earlier)

-- the checks of a creature by itself, in order, each with its fault if it fails
unfoldable pub own_checks : ℕ → ℕ × Members → List (Option FileFault)
own_checks size (number, creature) =
    unknown_key in_a_creature (At ∷ Code ∷ []) creature
    ∷ option_map file_fault (result_err (place_of size creature))
    ∷ result_err (code_of number creature)
    ∷ past_end size (inoculum_of size (number, creature))
    ∷ []

-- the checks of a creature that comes after others
abbrev pub creature_checks : ℕ → List (Option Inoculum) → ℕ × Members → List (Option FileFault)
creature_checks size earlier (number, creature) =
    own_checks size (number, creature) ++ overlap number earlier (inoculum_of size (number, creature)) ∷ []

-- the checks of one of the creatures, and of all
abbrev pub checks_among : ℕ → List Members → ℕ × Members → List (Option FileFault)
checks_among size creatures (number, creature) =
    creature_checks size (take (number - 1) (inocula_of size creatures)) (number, creature)

abbrev pub all_creature_checks : ℕ → List Members → List (Option FileFault)
all_creature_checks size creatures = flat_map (checks_among size creatures) (enumerate_from 1 creatures)

-- codes that lie in a soup of this size and share no cell
pub record LieApart (size : ℕ) (creatures : List Inoculum) : Type 0 where
  pub written : All (λ c. IsCode c.code) creatures
  pub placed : All (λ c. c.at + length c.code ≤ size) creatures
  pub apart : (p : ℕ) → sum_of (λ c. one_if (is_in (block_of c) p)) creatures ≤ 1
