-- Names of genotypes, and the genebank of a setup.
use Rattle.std.specs.Prelude.{List, None, [], drop, filter, if◌then◌else◌, length, map, option_map, suc, zero, ℕ, ◌++◌}
use Rattle.std.specs.Prelude.{◌+◌, ◌==◌, ◌∷◌, ◌≡◌, ◌⊎◌}
use Rattle.tierra_model.specs.declared.genebank.Saved.{Saved}
use Rattle.tierra_model.specs.declared.genebank.Name.{Name}
use Rattle.tierra_model.specs.declared.genebank.Form.TheVariants as form
use Rattle.tierra_model.specs.World.{Genotype, Saving, World, genotype_at}
use Rattle.tierra_model.specs.Setups.{SetupFields}
use Rattle.tierra_model.specs.Serial.{serial}
use Rattle.tierra_model.specs.Groups.{GroupFields}

-- how many of the first k genotypes have a code of the size
abbrev pub number_before : ℕ → List Genotype → ℕ → ℕ
number_before size gs zero = 0
number_before size [] (suc k) = 0
number_before size (g ∷ gs) (suc k) = (if length g.code == size then 1 else 0) + number_before size gs k

-- the length of genotype k's code, and the number of genotypes of that length before it
abbrev pub name_of : List Genotype → ℕ → Name
name_of genotypes k =
    let size = length (genotype_at genotypes k).code in
    record { size = size; rank = number_before size genotypes k }

-- what is kept of a saved genotype, with the efforts that it had when it was saved
abbrev pub saved_of : List Genotype → Saving → Saved
saved_of genotypes s =
    let g = genotype_at genotypes s.genotype in
    record {
      name = name_of genotypes s.genotype;
      parent = option_map (name_of genotypes) g.parent;
      first = s.first_effort;
      second = s.second_effort;
      code = g.code;
    }

-- what a world saved in quantum q, in the order of saving
abbrev pub saved_in : ℕ → World → List Saved
saved_in q w = map (saved_of w.genotypes) (filter (λ s. s.quantum == q) w.saved)

-- one group, or none if nothing was saved
abbrev pub group_if_any : ℕ → List Saved → List GroupFields
group_if_any q [] = []
group_if_any q (x ∷ xs) = record { quantum = q; form = form.Two; saved = x ∷ xs } ∷ []

-- the groups of the quanta below m, each taken from the world after its quantum
unfoldable pub bank : SetupFields → ℕ → List GroupFields
bank setup zero = []
bank setup (suc q) = bank setup q ++ group_if_any q (saved_in q (serial setup q))

-- the groups of the quanta below m, read off one world
abbrev pub groups_below : World → ℕ → List GroupFields
groups_below w zero = []
groups_below w (suc q) = groups_below w q ++ group_if_any q (saved_in q w)

abbrev pub groups_of : World → List GroupFields
groups_of w = groups_below w (w.quanta + 1)

-- the groups of a world from place k on
abbrev pub groups_from : World → ℕ → List GroupFields
groups_from w k = drop k (groups_of w)

abbrev pub without_efforts : Saved → Saved
without_efforts s = record s { first = None; second = None }

-- a run's group as a bank of form One has it
abbrev pub in_form_one : GroupFields → GroupFields
in_form_one g = record { quantum = g.quantum; form = form.One; saved = map without_efforts g.saved }

-- the group of a disk fits that of a run
abbrev pub GroupFits : GroupFields → GroupFields → Type 0
GroupFits disk run = (disk ≡ run) ⊎ (disk ≡ in_form_one run)

-- the lists have the same length, and their groups fit place by place
abbrev pub GroupsFit : List GroupFields → List GroupFields → Type 0
GroupsFit [] [] = Unit {0}
GroupsFit [] (r ∷ runs) = ⊥
GroupsFit (d ∷ disks) [] = ⊥
GroupsFit (d ∷ disks) (r ∷ runs) = GroupFits d r × GroupsFit disks runs
