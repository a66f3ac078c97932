-- What is read of bytes has the ranges of the types that it is read into.
use Rattle.std.proofs.Common.{◌≡◌, ℕ, ◌<◌, ◌^◌, List, Some, subst, sym}
use Rattle.std.specs.List.Sorted.{IsPermutation}
use Rattle.std.proofs.lemmas.List.{length-map}
use Rattle.std.proofs.lemmas.List.Elements.{All-map, All-weaker}
use Rattle.std.proofs.lemmas.List.Sorted.{All-permutation, length_permutation}
use Rattle.byte_fields.specs.Exact.{IsBytes}
use Rattle.byte_fields.specs.Writing.{IsLongEffort}
use Rattle.tierra_model.specs.declared.creatures.Creature.{Creature}
use Rattle.tierra_model.specs.declared.parameters.Settings.{Settings}
use Rattle.tierra_model.specs.World.{Saving as ModelSaving}
use Rattle.world_state.specs.declared.fields.StoredGenotype.{StoredGenotype}
use Rattle.world_state.specs.declared.saving.Saving.{Saving}
use Rattle.world_state.specs.Reading.{StateParts, genotype_of, state_at}
use Rattle.world_state.specs.Restoring.{FitsTypes, HasLongNumbers, HasWords}
use Rattle.world_state.specs.Savings.{saving_of}
use Rattle.world_state.proofs.FieldsRead.{CreatureFits, FoundFits, SavingFits}
use Rattle.world_state.proofs.Told.{made_of, reads_state}

creature-words : (c : Creature) → CreatureFits c → HasWords c
creature-words c h =
    let words = h.1.0 in
    record {
      ax = words.0.0.0;
      bx = words.0.0.1;
      cx = words.0.1.0;
      dx = words.0.1.1;
      ten = words.1.1.0.0;
      stack = words.1.1.0.1;
      flag = words.1.1.1.1;
    }

found-long : (f : StoredGenotype) → FoundFits f → HasLongNumbers (genotype_of f)
found-long f h = (h.1.1.0, h.1.1.1.1.0.1, h.1.1.1.1.1.1)

abbrev SavingLong : Saving → Type 0
SavingLong s = IsLongEffort s.first_effort × IsLongEffort s.second_effort

saving-long : (s : Saving) → SavingFits s → SavingLong s
saving-long s h = (h.1.0.1, h.1.1.1)

-- the world that was read has what the types of its numbers give
pub types-fit : (chosen : Settings) (bytes : List ℕ) (parts : StateParts) (rest : List ℕ) (living : List Creature) (slicer : List ℕ)
    → IsBytes bytes → state_at bytes ≡ Some (parts, rest) → IsPermutation parts.1.1.0 living → FitsTypes (made_of chosen parts living slicer)
types-fit chosen bytes parts rest living slicer ok read moved =
    let fits = (reads_state.takes bytes (parts, rest) ok read).1.1.1 in
    let line = parts.1.1.0 in
    let stored = parts.1.1.1.1.0 in
    let saved = parts.1.1.1.1.1 in
    let creatures = All-weaker CreatureFits HasWords creature-words line fits.0.1 in
    let genotypes = All-weaker FoundFits (λ f. HasLongNumbers (genotype_of f)) found-long stored fits.1.1.0.1 in
    let savings = All-weaker SavingFits SavingLong saving-long saved fits.1.1.1.1 in
    record {
      creatures = All-permutation HasWords line living moved creatures;
      living = subst (λ n. n < 2 ^ 32) (sym (length_permutation line living moved)) fits.0.0;
      genotypes = All-map HasLongNumbers genotype_of stored genotypes;
      savings = All-map (λ (s : ModelSaving). IsLongEffort s.first_effort × IsLongEffort s.second_effort) saving_of saved savings;
      saved = subst (λ n. n < 2 ^ 64) (sym (length-map saved saving_of)) fits.1.1.1.0;
    }
