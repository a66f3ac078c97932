-- The keys of a soup file, and what is read at one.
use Rattle.std.specs.Prelude.{ℕ, ℤ, pos, negsuc, ◌&&◌, Bool, not, nat_le, List, [], ◌∷◌, ◌++◌, codes, filter}
use Rattle.std.specs.Prelude.{if◌then◌else◌, ok_or, option_map, bytes_eq, Option, Some, None, Result, Ok, Err}
use Rattle.std.specs.Cmp.Lexicographic.{slice_cmp}
use Rattle.std.specs.List.{list_any}
use Rattle.std.specs.Ordering.{is_lt, nat_cmp}
use Rattle.hex.specs.Hex.{decode_sized}
use Rattle.hex.specs.declared.error.FromHexError.{FromHexError}
use Rattle.toml.specs.Data.{Data, Members, no_members, member, get_member, as_bool, as_integer, as_str}
use Rattle.soup_file.specs.declared.fault.FileFault.{FileFault}
use Rattle.soup_file.specs.declared.fault.FileFault.TheVariants as fault
use Rattle.soup_file.specs.declared.key.Key.{Key}
use Rattle.soup_file.specs.declared.key.Key.TheVariants.{SoupSize, SliceSize, SliceBySize, SliceNum, SliceDen}
use Rattle.soup_file.specs.declared.key.Key.TheVariants.{SearchLimit, MinTemplate, MinCell, MaxCell, MalMult}
use Rattle.soup_file.specs.declared.key.Key.TheVariants.{FillPercent, MovePercent, SaveAt, BackRate, CopyRate, FlawRate}
use Rattle.soup_file.specs.declared.key.Key.TheVariants.{Seed, DistEvery, DistPercent, Creature, At, Code}
use Rattle.soup_file.specs.declared.key.KeyFault.{KeyFault}
use Rattle.soup_file.specs.declared.key.KeyFault.TheVariants.{Missing, WrongKind, OutOfRange}

-- the name of a key in its table
unfoldable pub name_of : Key → List ℕ
name_of SoupSize = codes "soup_size"
name_of SliceSize = codes "slice_size"
name_of SliceBySize = codes "slice_by_size"
name_of SliceNum = codes "slice_num"
name_of SliceDen = codes "slice_den"
name_of SearchLimit = codes "search_limit"
name_of MinTemplate = codes "min_template"
name_of MinCell = codes "min_cell"
name_of MaxCell = codes "max_cell"
name_of MalMult = codes "mal_mult"
name_of FillPercent = codes "fill_percent"
name_of MovePercent = codes "move_percent"
name_of SaveAt = codes "save_at"
name_of BackRate = codes "back_rate"
name_of CopyRate = codes "copy_rate"
name_of FlawRate = codes "flaw_rate"
name_of Seed = codes "seed"
name_of DistEvery = codes "dist_every"
name_of DistPercent = codes "dist_percent"
name_of Creature = codes "creature"
name_of At = codes "at"
name_of Code = codes "code"

-- the prefix of the names of a creature's keys in a fault
abbrev pub in_a_creature : List ℕ
in_a_creature = codes "creature."

unfoldable pub table_of : Key → List ℕ
table_of At = in_a_creature
table_of Code = in_a_creature
table_of key = []

-- the name of a key in the file
abbrev pub full_name : Key → List ℕ
full_name key = table_of key ++ name_of key

-- what is wrong at a key, with its name
abbrev pub file_fault : KeyFault → FileFault
file_fault (Missing key) = fault.Missing (full_name key)
file_fault (WrongKind key) = fault.WrongKind (full_name key)
file_fault (OutOfRange key) = fault.OutOfRange (full_name key)

-- a number in its range
abbrev pub in_range : Key → ℕ → ℕ → ℤ → Result ℕ KeyFault
in_range key low high (pos n) = if nat_le low n && nat_le n high then Ok n else Err (OutOfRange key)
in_range key low high (negsuc n) = Err (OutOfRange key)

abbrev pub number_from : Key → ℕ → ℕ → Option ℤ → Result ℕ KeyFault
number_from key low high None = Err (WrongKind key)
number_from key low high (Some z) = in_range key low high z

-- the number that a value is, if it is in its range
unfoldable pub number_in : Key → ℕ → ℕ → Data → Result ℕ KeyFault
number_in key low high value = number_from key low high (as_integer value)

-- the truth value that a value is
abbrev pub flag_in : Key → Data → Result Bool KeyFault
flag_in key value = ok_or (as_bool value) (WrongKind key)

abbrev pub decoded : Key → Result (List ℕ) FromHexError → Result (List ℕ) KeyFault
decoded key (Ok bytes) = Ok bytes
decoded key (Err e) = Err (OutOfRange key)

-- 64 hexadecimal digits of either case, two for each byte
abbrev pub bytes_from : Key → Option (List ℕ) → Result (List ℕ) KeyFault
bytes_from key None = Err (WrongKind key)
bytes_from key (Some text) = decoded key (decode_sized text 32)

-- the 32 bytes that a value spells
unfoldable pub bytes_in : Key → Data → Result (List ℕ) KeyFault
bytes_in key value = bytes_from key (as_str value)

-- the text that a value is
abbrev pub text_in : Key → Data → Result (List ℕ) KeyFault
text_in key value = ok_or (as_str value) (WrongKind key)

abbrev pub read_or : {V E : Type 0} → (Data → Result V E) → Result V E → Option Data → Result V E
read_or read absent None = absent
read_or read absent (Some value) = read value

-- what is read at a key, or the answer absent if the table lacks the key
unfoldable pub read_at : {V E : Type 0} → Key → (Data → Result V E) → Result V E → Members → Result V E
read_at key read absent document = read_or read absent (get_member (name_of key) document)

-- the keys of a table
abbrev pub keys_of : Members → List (List ℕ)
keys_of no_members = []
keys_of (member k d ms) = k ∷ keys_of ms

-- the name is that of one of the keys
unfoldable pub names_one_of : List Key → List ℕ → Bool
names_one_of keys name = list_any (λ key. bytes_eq name (name_of key)) keys

-- the lesser of two names, and the least of a list, by their bytes
abbrev pub lesser : List ℕ → Option (List ℕ) → List ℕ
lesser name None = name
lesser name (Some other) = if is_lt (slice_cmp nat_cmp name other) then name else other

abbrev pub least : List (List ℕ) → Option (List ℕ)
least [] = None
least (name ∷ names) = Some (lesser name (least names))

-- the least of a table's keys that are not known
unfoldable pub unknown_in : List Key → Members → Option (List ℕ)
unknown_in keys members = least (filter (λ name. not (names_one_of keys name)) (keys_of members))

-- the fault of the least unknown key, if there is one
abbrev pub unknown_key : List ℕ → List Key → Members → Option FileFault
unknown_key before keys members = option_map (λ name. fault.UnknownKey (before ++ name)) (unknown_in keys members)

-- the first fault in a list of checks, each of which gives its fault if it fails
abbrev pub first_fault : {F : Type 0} → List (Option F) → Option F
first_fault [] = None
first_fault (None ∷ checks) = first_fault checks
first_fault (Some fault ∷ checks) = Some fault
