-- The genotypes and their savings.
use Rattle.std.specs.Prelude.{List, None, length, slice_index_or, ℕ, ◌<◌, ◌≡◌, ◌≢◌}
use Rattle.std.specs.List.{AllWithin}
use Rattle.tierra_model.specs.World.{Genotype, Saving as ModelSaving}
use Rattle.world_state.specs.declared.saving.Saving.{Saving}

-- the genotypes, what was saved, and how many births need no memory
pub record GenesFields : Type 0 where
  pub genotypes : List Genotype
  pub saved : List ModelSaving
  pub spare : ℕ

abbrev pub no_saving : Saving
no_saving = record { genotype = 0; quantum = 0; first_effort = None; second_effort = None }

-- the quantum of the first saving, and so of all if they share one
abbrev pub quantum_of : List Saving → ℕ
quantum_of saved = (slice_index_or saved 0 no_saving).quantum

-- the savings from place at up to place end all have the same quantum
abbrev pub AreOf : List Saving → ℕ → ℕ → Type 0
AreOf saved at end = AllWithin (λ s. s.quantum ≡ (slice_index_or saved at no_saving).quantum) saved at end

-- the saving at place end, if there is one, has a different quantum from the saving at place at
abbrev pub BeginsAnew : List Saving → ℕ → ℕ → Type 0
BeginsAnew saved at end = end < length saved
    → (slice_index_or saved end no_saving).quantum ≢ (slice_index_or saved at no_saving).quantum
