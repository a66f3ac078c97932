-- The dump of a world: everything in it, as text.
use Rattle.std.specs.Prelude.{ℕ, List, [], ◌∷◌, ◌++◌, ◌-◌, ◌*◌, ◌==◌, Option, Some, None, codes, drop, if◌then◌else◌}
use Rattle.std.specs.Prelude.{length, map, replicate, take}
use Rattle.std.specs.Fmt.{decimal}
use Rattle.std.specs.Int.{div_ceil}
use Rattle.std.specs.List.{flat_map, list_all, range_with_len}
use Rattle.hex.specs.Hex.{encode_lower}
use Rattle.sha2.specs.Sha256.{sha256}
use Rattle.tierra_model.specs.declared.creatures.Block.{Block}
use Rattle.tierra_model.specs.declared.creatures.Creature.{Creature}
use Rattle.tierra_model.specs.Genebank.{name_of}
use Rattle.tierra_model.specs.Living.{one_of}
use Rattle.tierra_model.specs.Report.{processor_text}
use Rattle.tierra_model.specs.World.{Genotype, World}
use Rattle.genotyper.specs.Names.{name_text}
use Rattle.world_state.specs.StateBytes.{state_bytes}
use Rattle.report_text.specs.Report.{report}

-- ---- the living

-- the first cell and the size of the daughter block, if one is held
abbrev pub daughter_text : Option Block → List ℕ
daughter_text (Some b) = decimal b.at ++ codes "+" ++ decimal b.size
daughter_text None = codes "none"

-- the blocks of a creature, and how many cells of its daughter it has moved
abbrev pub body_text : Creature → List ℕ
body_text c =
    codes "creature " ++ decimal c.id ++ codes " at " ++ decimal c.own.at ++ codes " size " ++ decimal c.own.size
    ++ codes " daughter " ++ daughter_text c.daughter ++ codes " moved " ++ decimal c.moved ++ codes " "

-- its processor without the stack, and its errors
abbrev pub registers_text : Creature → List ℕ
registers_text c =
    processor_text c ++ codes " sp " ++ decimal c.sp ++ codes " flag " ++ decimal c.flag ++ codes " errors "
    ++ decimal c.errors
    ++ codes " "

-- the line of a creature, which ends with the name of its genotype
abbrev pub creature_line : List Genotype → Creature → List ℕ
creature_line genotypes c = body_text c ++ registers_text c ++ name_text (name_of genotypes c.genotype) ++ codes "\n"

-- a line for each of the living, in the order of their turns
abbrev pub creature_lines : World → List ℕ
creature_lines w = flat_map (creature_line w.genotypes) (map (one_of w.living) w.slicer)

-- ---- the reaper queue

abbrev pub id_text : ℕ → List ℕ
id_text id = codes " " ++ decimal id

-- the birth numbers from the top of the queue
abbrev pub reaper_line : List ℕ → List ℕ
reaper_line ids = codes "reaper" ++ flat_map id_text ids ++ codes "\n"

-- ---- the soup

-- the number of a cell, filled with zeros on the left to seven digits; 48 is the digit 0
abbrev pub place_text : ℕ → List ℕ
place_text at = replicate (7 - length (decimal at)) 48 ++ decimal at

-- a cell in two hexadecimal digits
abbrev pub cell_text : ℕ → List ℕ
cell_text v = codes " " ++ encode_lower (v ∷ [])

-- the number of the first cell of a row, and its cells; nothing if all of them are 0
abbrev pub row_line : ℕ → List ℕ → List ℕ
row_line first cells =
    if list_all (λ v. v == 0) cells then [] else place_text first ++ codes ":" ++ flat_map cell_text cells ++ codes "\n"

-- the line of row k, which has 32 cells, or fewer at the end of the soup
abbrev pub row_of : List ℕ → ℕ → List ℕ
row_of soup k = row_line (32 * k) (take 32 (drop (32 * k) soup))

-- the lines of all rows
abbrev pub row_lines : List ℕ → List ℕ
row_lines soup = flat_map (row_of soup) (range_with_len 0 (div_ceil (length soup) 32))

-- ---- the state

-- the digest of the world's state bytes
abbrev pub state_line : World → List ℕ
state_line w = codes "state " ++ encode_lower (sha256 (state_bytes w)) ++ codes "\n"

-- the report, the living, the reaper queue, the soup and the digest
abbrev pub dump : World → List ℕ
dump w = report w ++ creature_lines w ++ reaper_line w.reaper ++ row_lines w.soup ++ state_line w
