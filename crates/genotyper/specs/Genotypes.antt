-- Genotypes in the order of their first birth.
use Rattle.std.specs.Prelude.{List, None, Option, Some, length, map, slice_get, ℕ, ◌≡◌, ◌≤◌}
use Rattle.tierra_model.specs.declared.limits.TheConstants.{MOST_SIZE}
use Rattle.tierra_model.specs.Genebank.{number_before}
use Rattle.tierra_model.specs.World.{Genotype}
use Rattle.genotyper.specs.declared.genotypes.Details.{Details}

-- what contracts see: the genotypes, and how many births need no memory
pub record GenotypeFields : Type 0 where
  pub genotypes : List Genotype
  pub spare : ℕ

-- a genotype of `total` individuals, with no effort noted
abbrev pub new_genotype : List ℕ → Option ℕ → ℕ → ℕ → Genotype
new_genotype code parent q total =
    record { code = code; parent = parent; first_quantum = q; total = total; first_effort = None; second_effort = None }

-- a code with what is kept of it
abbrev pub genotype_of : List ℕ × Details → Genotype
genotype_of (code, d) =
    record {
      code = code;
      parent = d.parent;
      first_quantum = d.first_quantum;
      total = d.total;
      first_effort = d.first_effort;
      second_effort = d.second_effort;
    }

abbrev pub genotypes_of : List (List ℕ × Details) → List Genotype
genotypes_of entries = map genotype_of entries

-- What the type ensures: no code is too long, each rank agrees with the list, and each count is that of its size.
pub record IsRanked (entries : List (List ℕ × Details)) (count : ℕ → ℕ) : Type 0 where
  pub short : (k : ℕ) (code : List ℕ) (d : Details) → slice_get entries k ≡ Some (code, d) → length code ≤ MOST_SIZE
  pub ranks : (k : ℕ) (code : List ℕ) (d : Details) → slice_get entries k ≡ Some (code, d)
      → d.rank ≡ number_before (length code) (genotypes_of entries) k
  pub counts : (size : ℕ) → count size ≡ number_before size (genotypes_of entries) (length entries)
