-- The report of a run, and the line of a genotype in it.
use Rattle.std.specs.Prelude.{ℕ, List, [], ◌++◌, ◌==◌, codes, if◌then◌else◌, length}
use Rattle.std.specs.Fmt.{decimal}
use Rattle.std.specs.List.{flat_map, range_with_len}
use Rattle.tierra_model.specs.Genebank.{name_of}
use Rattle.tierra_model.specs.Report.{report_head}
use Rattle.tierra_model.specs.World.{World, genotype_at}
use Rattle.genotyper.specs.Names.{name_text}
use Rattle.world_core.specs.Running.{number_with}

-- the name, how many live and how many ever lived; nothing if none live
abbrev pub genotype_line : List ℕ → ℕ → ℕ → List ℕ
genotype_line name living total =
    if living == 0 then [] else name ++ codes " " ++ decimal living ++ codes " " ++ decimal total ++ codes "\n"

-- the line of genotype k
abbrev pub line_of : World → ℕ → List ℕ
line_of w k = genotype_line (name_text (name_of w.genotypes k)) (number_with w.living k)
    (genotype_at w.genotypes k).total

-- the head, how many genotypes there are and how many are saved, and a line for each living genotype by first birth
abbrev pub report : World → List ℕ
report w =
    report_head w ++ codes "genotypes " ++ decimal (length w.genotypes) ++ codes "\nkept " ++ decimal (length w.saved)
    ++ codes "\n"
    ++ flat_map (line_of w) (range_with_len 0 (length w.genotypes))
