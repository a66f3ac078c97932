-- The texts of a genebank.
use Rattle.std.specs.Prelude.{ℕ, List, [], ◌++◌, codes, Option, Some, None}
use Rattle.std.specs.Fmt.{decimal}
use Rattle.std.specs.List.{flat_map}
use Rattle.hex.specs.Hex.{encode_lower}
use Rattle.tierra_model.specs.declared.creatures.Effort.{Effort}
use Rattle.tierra_model.specs.declared.genebank.Form.{Form}
use Rattle.tierra_model.specs.declared.genebank.Form.TheVariants as form
use Rattle.tierra_model.specs.declared.genebank.Name.{Name}
use Rattle.tierra_model.specs.declared.genebank.Saved.{Saved}
use Rattle.tierra_model.specs.Groups.{GroupFields}
use Rattle.genotyper.specs.Names.{name_text}

-- the name, and the quantum in which it was saved
abbrev pub saved_line : Name → ℕ → List ℕ
saved_line name quantum = codes "saved " ++ name_text name ++ codes " " ++ decimal quantum ++ codes "\n"

abbrev pub parent_line : Option Name → List ℕ
parent_line (Some name) = codes "parent " ++ name_text name ++ codes "\n"
parent_line None = codes "parent none\n"

abbrev pub effort_line : List ℕ → Option Effort → List ℕ
effort_line label (Some e) = label ++ codes " " ++ decimal e.ran ++ codes " " ++ decimal e.moved ++ codes "\n"
effort_line label None = label ++ codes " none\n"

-- a group of form One has no lines of efforts
abbrev pub efforts_lines : Form → Saved → List ℕ
efforts_lines form.One s = []
efforts_lines form.Two s = effort_line (codes "first") s.first ++ effort_line (codes "second") s.second

-- two lower-case hexadecimal digits for each instruction
abbrev pub code_line : List ℕ → List ℕ
code_line code = codes "code " ++ encode_lower code ++ codes "\n"

-- the lines of a saved genotype
abbrev pub genotype_text : Form → ℕ → Saved → List ℕ
genotype_text f quantum s = saved_line s.name quantum ++ parent_line s.parent ++ efforts_lines f s ++ code_line s.code

abbrev pub group_text : GroupFields → List ℕ
group_text g = flat_map (genotype_text g.form g.quantum) g.saved

-- the lines of each saved genotype of each group, in order
abbrev pub bank_text : List GroupFields → List ℕ
bank_text groups = flat_map group_text groups

-- the saved lines alone
abbrev pub saved_lines : List GroupFields → List ℕ
saved_lines groups = flat_map (λ g. flat_map (λ s. saved_line s.name g.quantum) g.saved) groups
