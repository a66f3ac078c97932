-- What contracts see of a census.
use Rattle.std.specs.Prelude.{nat_eq, unwrap_or, ℕ}
use Rattle.std.specs.HashMap.{get, spare}
use Rattle.census.specs.declared.Census.{Census}

-- how many individuals of the genotype live
unfoldable pub living_of : Census → ℕ → ℕ
living_of c genotype = unwrap_or (get nat_eq c.counts genotype) 0

-- how many births need no memory
unfoldable pub spare_of : Census → ℕ
spare_of c = spare c.counts
