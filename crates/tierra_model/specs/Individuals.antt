-- Genotypes as individuals are born: numbers, totals, savings and efforts.
use Rattle.std.specs.Prelude.{List, None, Option, Some, [], if◌then◌else◌, length, option_map, suc, zero, ℕ, ◌++◌, ◌+◌}
use Rattle.std.specs.Prelude.{◌==◌, ◌∷◌}
use Rattle.std.specs.Str.{bytes_eq}
use Rattle.tierra_model.specs.declared.creatures.Creature.{Creature}
use Rattle.tierra_model.specs.declared.creatures.Effort.{Effort}
use Rattle.tierra_model.specs.World.{Genotype, Saving, genotype_at}

-- the number of the genotype with the code, if there is one
abbrev pub genotype_number : List ℕ → List Genotype → Option ℕ
genotype_number code [] = None
genotype_number code (g ∷ gs) = if bytes_eq g.code code then Some 0 else option_map suc (genotype_number code gs)

-- the genotypes with one more individual of genotype k
abbrev pub with_one_more : ℕ → List Genotype → List Genotype
with_one_more k [] = []
with_one_more zero (g ∷ gs) = record g { total = g.total + 1 } ∷ gs
with_one_more (suc k) (g ∷ gs) = g ∷ with_one_more k gs

-- One more individual of the code, in quantum q: the list after it, and the number of its genotype.
unfoldable pub with_individual : List Genotype → List ℕ → Option ℕ → ℕ → List Genotype × ℕ
with_individual genotypes code parent q =
    elim (genotype_number code genotypes) [
      | None ↦ (
        genotypes ++ (record {
          code = code;
          parent = parent;
          first_quantum = q;
          total = 1;
          first_effort = None;
          second_effort = None;
        }) ∷ [],
        length genotypes,
      )
      | Some k ↦ (with_one_more k genotypes, k)
    ]

-- A genotype is saved when its total reaches save_at.
abbrev pub savings_after : ℕ → List Genotype → ℕ → ℕ → List Saving → List Saving
savings_after save_at genotypes k q saved =
    let g = genotype_at genotypes k in
    if g.total == save_at then
    saved ++ (record { genotype = k; quantum = q; first_effort = g.first_effort; second_effort = g.second_effort }) ∷ []
    else saved

-- the effort that is there already, or e if there is none
abbrev pub first_of_both : Option Effort → Effort → Option Effort
first_of_both None e = Some e
first_of_both (Some d) e = Some d

-- a genotype after a mother that has it bore her daughter number bred, with effort e
abbrev pub with_effort : ℕ → Effort → Genotype → Genotype
with_effort bred e g =
    record g {
      first_effort = (if bred == 1 then first_of_both g.first_effort e else g.first_effort);
      second_effort = (if bred == 2 then first_of_both g.second_effort e else g.second_effort);
    }

-- the genotypes with that effort noted for genotype k
abbrev pub with_effort_of : ℕ → ℕ → Effort → List Genotype → List Genotype
with_effort_of k bred e [] = []
with_effort_of zero bred e (g ∷ gs) = with_effort bred e g ∷ gs
with_effort_of (suc k) bred e (g ∷ gs) = g ∷ with_effort_of k bred e gs

-- the genotypes with the mother's effort for this daughter, before the daughter is counted
abbrev pub genotypes_at_birth : Creature → ℕ → ℕ → List Genotype → List Genotype
genotypes_at_birth mother ran moved genotypes =
    with_effort_of mother.genotype (mother.bred + 1) (record { ran = ran; moved = moved }) genotypes
