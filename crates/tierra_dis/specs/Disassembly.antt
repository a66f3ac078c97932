-- The listing of a code.
use Rattle.std.specs.Prelude.{List, [], ◌∷◌, ◌++◌, ℕ, Option, Some, None, Result, Ok, Err, map, slice_get}
use Rattle.std.specs.List.{concat, enumerate_from}
use Rattle.tierra_model.specs.Table.{ops}
use Rattle.tierra_model.specs.declared.ops.Op.{Op}
use Rattle.soup_ops.specs.Names.{name_of}
use Rattle.tierra_asm.specs.Values.{all_or_first_error}
use Rattle.tierra_dis.specs.declared.disassembly.DisFault.{DisFault}
use Rattle.tierra_dis.specs.declared.disassembly.DisFault.TheVariants.{NotAnOp}

-- the line of an instruction, if the byte at this place is the code of one
abbrev pub line_of : ℕ → Option Op → Result (List ℕ) DisFault
line_of place (Some op) = Ok (name_of op ++ 10 ∷ [])
line_of place None = Err (NotAnOp place)

-- the line of a byte, by its place
abbrev pub line_at : ℕ × ℕ → Result (List ℕ) DisFault
line_at (place, byte) = line_of place (slice_get ops byte)

-- the lines one after another, or the fault
abbrev pub joined : Result (List (List ℕ)) DisFault → Result (List ℕ) DisFault
joined (Ok lines) = Ok (concat lines)
joined (Err fault) = Err fault

-- the listing of a code, which has a line for each instruction, or the fault of its first byte that is no instruction
abbrev pub listing_text : List ℕ → Result (List ℕ) DisFault
listing_text code = joined (all_or_first_error (map line_at (enumerate_from 1 code)))
