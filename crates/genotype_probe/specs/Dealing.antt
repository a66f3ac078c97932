-- Genotypes dealt to workers, one to each in turn.
use Rattle.std.specs.Global.{Vec}
use Rattle.std.specs.Prelude.{List, Some, length, slice_get, ℕ, ◌*◌, ◌+◌, ◌-◌, ◌≡◌}
use Rattle.tierra_model.specs.declared.genebank.Saved.{Saved}
use Rattle.genotype_probe.specs.declared.Efforts.{Efforts}
use Rattle.genotype_probe.specs.Probes.{probe}

-- the probes of the genotypes at the places first, first + step and so on
abbrev pub IsPart : List Saved → ℕ → ℕ → ℕ → List Efforts → Type 0
IsPart saved n first step part =
    (i : ℕ) (s : Saved) → slice_get saved (first + step * i) ≡ Some s → slice_get part i ≡ Some (probe s.code n)

-- the parts of the workers from `first` to below `last`
pub record AreParts (saved : List Saved) (n first last step : ℕ) (parts : List (Vec Efforts)) : Type 0 where
  pub count : length parts ≡ last - first
  pub each : (k : ℕ) (part : Vec Efforts) → slice_get parts k ≡ Some part → IsPart saved n (first + k) step part.items
