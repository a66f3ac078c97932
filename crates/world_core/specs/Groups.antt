-- The groups of the genebank, read off the savings: the consecutive savings of one quantum form a group.
use Rattle.std.specs.Prelude.{List, [], if◌then◌else◌, map, ℕ, ◌==◌, ◌∷◌}
use Rattle.tierra_model.specs.declared.genebank.Form.TheVariants as form
use Rattle.tierra_model.specs.Genebank.{saved_of}
use Rattle.tierra_model.specs.Groups.{GroupFields}
use Rattle.tierra_model.specs.World.{Genotype, Saving}

abbrev pub group_of : List Genotype → ℕ → List Saving → GroupFields
group_of genotypes q savings = record { quantum = q; form = form.Two; saved = map (saved_of genotypes) savings }

-- puts a saving before the groups: it joins the first group if that has its quantum, and else is a group of its own
abbrev pub with_saving : List Genotype → Saving → List GroupFields → List GroupFields
with_saving genotypes s [] = group_of genotypes s.quantum (s ∷ []) ∷ []
with_saving genotypes s (g ∷ groups) =
    if g.quantum == s.quantum then record g { saved = saved_of genotypes s ∷ g.saved } ∷ groups
    else group_of genotypes s.quantum (s ∷ []) ∷ g ∷ groups

abbrev pub grouped : List Genotype → List Saving → List GroupFields
grouped genotypes [] = []
grouped genotypes (s ∷ rest) = with_saving genotypes s (grouped genotypes rest)
