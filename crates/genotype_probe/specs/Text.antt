-- What is told of probes.
use Rattle.std.specs.Fmt.{decimal}
use Rattle.std.specs.List.{flat_map}
use Rattle.std.specs.Prelude.{List, None, Option, Some, codes, ℕ, ◌++◌}
use Rattle.tierra_model.specs.declared.creatures.Effort.{Effort}
use Rattle.tierra_model.specs.declared.genebank.Name.{Name}
use Rattle.tierra_model.specs.Groups.{GroupFields}
use Rattle.genotyper.specs.Names.{name_text}
use Rattle.genotype_probe.specs.declared.Efforts.{Efforts}
use Rattle.genotype_probe.specs.Probes.{probe, saved_of}

abbrev pub effort_text : Option Effort → List ℕ
effort_text (Some e) = decimal e.ran ++ codes " " ++ decimal e.moved
effort_text None = codes "none"

abbrev pub probe_line : Name → Efforts → List ℕ
probe_line name e =
    name_text name ++ codes " first " ++ effort_text e.first ++ codes " second " ++ effort_text e.second ++ codes "\n"

-- a line for each saved genotype, in order
abbrev pub probe_text : List GroupFields → ℕ → List ℕ
probe_text groups n = flat_map (λ s. probe_line s.name (probe s.code n)) (saved_of groups)
