-- Reading a world from left to right.
use Rattle.std.specs.Int.{cast_signed, w32}
use Rattle.std.specs.Prelude.{List, None, Option, Some, if◌then◌else◌, length, map, ℕ, ℤ, ◌-◌, ◌==◌}
use Rattle.byte_fields.specs.Reading.{both, byte_at, counted_at, efforts_at, eight_at, eights_at, four_at, fours_at}
use Rattle.byte_fields.specs.Reading.{list_at, made, made_if, only_if, sized_at}
use Rattle.tierra_model.specs.declared.creatures.Block.{Block}
use Rattle.tierra_model.specs.declared.creatures.Creature.{Creature}
use Rattle.tierra_model.specs.declared.creatures.Effort.{Effort}
use Rattle.tierra_model.specs.World.{Genotype}
use Rattle.world_state.specs.declared.fields.StoredGenotype.{StoredGenotype}
use Rattle.world_state.specs.declared.saving.Saving.{Saving}

-- ---- creatures

unfoldable pub register_at : List ℕ → Option (ℤ × List ℕ)
register_at bytes = made (cast_signed w32) four_at bytes

abbrev pub block_from : ℕ × ℕ → Block
block_from n = record { at = n.0; size = n.1 }

abbrev pub daughter_from : ℕ × ℕ → Option (Option Block)
daughter_from n = if n.1 == 0 then only_if (n.0 == 0) None else Some (Some (record { at = n.0; size = n.1 }))

unfoldable pub block_at : List ℕ → Option (Block × List ℕ)
block_at bytes = made block_from fours_at bytes

unfoldable pub daughter_at : List ℕ → Option (Option Block × List ℕ)
daughter_at bytes = made_if daughter_from fours_at bytes

abbrev pub Body : Type 0
Body = ℕ × (Block × (Option Block × ℕ))

unfoldable pub body_at : List ℕ → Option (Body × List ℕ)
body_at bytes = both eight_at (λ _. both block_at (λ _. both daughter_at (λ _. eight_at))) bytes

abbrev pub Registers : Type 0
Registers = (ℤ × ℤ) × (ℤ × ℤ)

unfoldable pub two_registers_at : List ℕ → Option ((ℤ × ℤ) × List ℕ)
two_registers_at bytes = both register_at (λ _. register_at) bytes

unfoldable pub registers_at : List ℕ → Option (Registers × List ℕ)
registers_at bytes = both two_registers_at (λ _. two_registers_at) bytes

abbrev pub Stack : Type 0
Stack = List ℤ × (ℕ × ℕ)

unfoldable pub stack_at : List ℕ → Option (Stack × List ℕ)
stack_at bytes = both (list_at register_at 10) (λ _. both four_at (λ _. byte_at)) bytes

abbrev pub Processor : Type 0
Processor = Registers × (ℕ × Stack)

unfoldable pub processor_at : List ℕ → Option (Processor × List ℕ)
processor_at bytes = both registers_at (λ _. both four_at (λ _. stack_at)) bytes

abbrev pub Counts : Type 0
Counts = ℕ × (ℕ × (ℕ × ℕ))

unfoldable pub counts_at : List ℕ → Option (Counts × List ℕ)
counts_at bytes = both eight_at (λ _. both eight_at (λ _. both eight_at (λ _. eight_at))) bytes

abbrev pub CreatureParts : Type 0
CreatureParts = Body × (Processor × Counts)

abbrev pub creature_from : CreatureParts → Creature
creature_from p =
    record {
      id = p.0.0;
      own = p.0.1.0;
      daughter = p.0.1.1.0;
      moved = p.0.1.1.1;
      ax = p.1.0.0.0.0;
      bx = p.1.0.0.0.1;
      cx = p.1.0.0.1.0;
      dx = p.1.0.0.1.1;
      ip = p.1.0.1.0;
      stack = p.1.0.1.1.0;
      sp = p.1.0.1.1.1.0;
      flag = p.1.0.1.1.1.1;
      errors = p.1.1.0;
      genotype = p.1.1.1.0;
      ran = p.1.1.1.1.0;
      bred = p.1.1.1.1.1;
    }

unfoldable pub creature_at : List ℕ → Option (Creature × List ℕ)
creature_at bytes = made creature_from (both body_at (λ _. both processor_at (λ _. counts_at))) bytes

-- ---- genotypes and savings

abbrev pub parent_from : ℕ → Option ℕ
parent_from n = if n == 0 then None else Some (n - 1)

unfoldable pub parent_at : List ℕ → Option (Option ℕ × List ℕ)
parent_at bytes = made parent_from eight_at bytes

abbrev pub Details : Type 0
Details = Option ℕ × (ℕ × (ℕ × (Option Effort × Option Effort)))

unfoldable pub details_at : List ℕ → Option (Details × List ℕ)
details_at bytes = both parent_at (λ _. both eight_at (λ _. both eight_at (λ _. efforts_at))) bytes

abbrev pub FoundParts : Type 0
FoundParts = List ℕ × Details

abbrev pub found_from : FoundParts → StoredGenotype
found_from p =
    record {
      code = p.0;
      parent = p.1.0;
      first_quantum = p.1.1.0;
      total = p.1.1.1.0;
      first_effort = p.1.1.1.1.0;
      second_effort = p.1.1.1.1.1;
    }

unfoldable pub found_at : List ℕ → Option (StoredGenotype × List ℕ)
found_at bytes = made found_from (both sized_at (λ _. details_at)) bytes

abbrev pub SavingParts : Type 0
SavingParts = (ℕ × ℕ) × (Option Effort × Option Effort)

abbrev pub saving_from : SavingParts → Saving
saving_from p = record { genotype = p.0.0; quantum = p.0.1; first_effort = p.1.0; second_effort = p.1.1 }

unfoldable pub saving_at : List ℕ → Option (Saving × List ℕ)
saving_at bytes = made saving_from (both eights_at (λ _. efforts_at)) bytes

-- the genotype that was read
abbrev pub genotype_of : StoredGenotype → Genotype
genotype_of f =
    record {
      code = f.code;
      parent = f.parent;
      first_quantum = f.first_quantum;
      total = f.total;
      first_effort = f.first_effort;
      second_effort = f.second_effort;
    }

abbrev pub genotypes_of : List StoredGenotype → List Genotype
genotypes_of stored = map genotype_of stored

-- ---- the whole

-- the cells, four counts, the living in the order of the slicer queue, the reaper queue, the genotypes and the savings
abbrev pub StateParts : Type 0
StateParts = List ℕ × (((ℕ × ℕ) × (ℕ × ℕ)) × (List Creature × (List ℕ × (List StoredGenotype × List Saving))))

unfoldable pub state_at : List ℕ → Option (StateParts × List ℕ)
state_at bytes =
    both sized_at
    (λ _. both (both eights_at (λ _. eights_at))
    (λ _. both (counted_at four_at creature_at)
    (λ line. both (list_at eight_at (length line))
    (λ _. both (counted_at eight_at found_at) (λ _. counted_at eight_at saving_at))))) bytes
