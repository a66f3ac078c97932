-- Lines that are written one by one.
use Rattle.std.proofs.Common.{ℕ, List, ◌++◌, Result, Ok, Err, map}
use Rattle.std.specs.List.{enumerate_from}
use Rattle.tierra_asm.specs.Values.{all_or_first_error}
use Rattle.tierra_dis.specs.declared.disassembly.DisFault.{DisFault}
use Rattle.tierra_dis.specs.Disassembly.{line_at, joined}

-- the listing of bytes, the first of which has this place
abbrev pub listing_from : ℕ → List ℕ → Result (List ℕ) DisFault
listing_from place code = joined (all_or_first_error (map line_at (enumerate_from place code)))

-- a text put before another, if there is no fault
abbrev pub after_text : List ℕ → Result (List ℕ) DisFault → Result (List ℕ) DisFault
after_text text (Ok rest) = Ok (text ++ rest)
after_text text (Err fault) = Err fault
