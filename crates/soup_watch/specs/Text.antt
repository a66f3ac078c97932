-- The text of sights.
use Rattle.std.specs.Fmt.{decimal}
use Rattle.std.specs.List.{flat_map}
use Rattle.std.specs.Prelude.{List, codes, ℕ, ◌++◌}
use Rattle.genotyper.specs.Names.{name_text}
use Rattle.soup_watch.specs.declared.sight.Count.{Count}
use Rattle.soup_watch.specs.declared.sight.Sight.{Sight}

abbrev pub count_line : Count → List ℕ
count_line c = name_text c.name ++ codes " " ++ decimal c.living ++ codes " " ++ decimal c.total ++ codes "\n"

abbrev pub head_line : Sight → List ℕ
head_line s =
    codes "sight quanta " ++ decimal s.quanta ++ codes " births " ++ decimal s.births ++ codes " deaths "
    ++ decimal s.deaths
    ++ codes " living " ++ decimal s.living ++ codes "\n"

-- the line of a sight, and a line for each genotype in it
abbrev pub sight_text : Sight → List ℕ
sight_text s = head_line s ++ flat_map count_line s.counts

abbrev pub sights_text : List Sight → List ℕ
sights_text sights = flat_map sight_text sights
