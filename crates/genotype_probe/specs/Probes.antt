-- What the daughters of a genotype cost where it is alone.
use Rattle.std.specs.List.{flat_map}
use Rattle.std.specs.Prelude.{List, map, ℕ}
use Rattle.tierra_model.specs.declared.genebank.Saved.{Saved}
use Rattle.tierra_model.specs.Groups.{GroupFields}
use Rattle.tierra_model.specs.Ranges.{IsCode}
use Rattle.tierra_model.specs.Serial.{serial}
use Rattle.tierra_model.specs.Setups.{setup_for}
use Rattle.tierra_model.specs.World.{Genotype, genotype_at}
use Rattle.genotype_probe.specs.declared.Efforts.{Efforts}

abbrev pub efforts_of : Genotype → Efforts
efforts_of g = record { first = g.first_effort; second = g.second_effort }

-- the efforts of the first genotype in a fresh soup that has the code alone, after n quanta
unfoldable pub probe : List ℕ → ℕ → Efforts
probe code n = efforts_of (genotype_at (serial (setup_for code) n).genotypes 0)

-- the saved genotypes of all groups, in order
abbrev pub saved_of : List GroupFields → List Saved
saved_of groups = flat_map (λ g. g.saved) groups

abbrev pub probe_all : List GroupFields → ℕ → List Efforts
probe_all groups n = map (λ s. probe s.code n) (saved_of groups)

-- its code is one that a creature may have
abbrev pub HasCode : Saved → Type 0
HasCode s = IsCode s.code
