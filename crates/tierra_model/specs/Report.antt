-- The report of a run.
use Rattle.std.specs.Prelude.{ℕ, ℤ, List, ◌++◌, codes, length}
use Rattle.std.specs.Fmt.{decimal, signed_decimal}
use Rattle.tierra_model.specs.declared.creatures.Creature.{Creature}
use Rattle.tierra_model.specs.Room.{filled, is_owned}
use Rattle.tierra_model.specs.World.{World, front}

-- a line for each count
abbrev pub counts_text : ℕ → ℕ → ℕ → ℕ → ℕ → List ℕ
counts_text quanta births deaths living filled =
    codes "quanta " ++ decimal quanta ++ codes "\nbirths " ++ decimal births ++ codes "\ndeaths " ++ decimal deaths
    ++ codes "\nliving " ++ decimal living ++ codes "\nfilled " ++ decimal filled ++ codes "\n"

-- a register after its label
abbrev pub register_text : List ℕ → ℤ → List ℕ
register_text label value = label ++ signed_decimal value

-- the address and the registers of a creature
abbrev pub processor_text : Creature → List ℕ
processor_text c =
    codes "ip " ++ decimal c.ip ++ register_text (codes " ax ") c.ax ++ register_text (codes " bx ") c.bx
    ++ register_text (codes " cx ") c.cx ++ register_text (codes " dx ") c.dx

-- the line of the creature at the front
abbrev pub front_text : Creature → List ℕ
front_text c =
    codes "front " ++ decimal c.id ++ codes " " ++ processor_text c ++ codes " flag " ++ decimal c.flag
    ++ codes " errors " ++ decimal c.errors ++ codes "\n"

-- the head of a world's report
abbrev pub report_head : World → List ℕ
report_head w =
    counts_text w.quanta w.births w.deaths (length w.living) (filled w.settings.soup_size (is_owned w.living))
    ++ front_text (front w)
