-- Tests of a world's parts, each for a condition of soundness.
use Rattle.std.specs.List.{flat_map, list_all}
use Rattle.std.specs.Prelude.{Bool, List, None, Option, Some, [], false, if◌then◌else◌, length, nat_le, nat_lt}
use Rattle.std.specs.Prelude.{option_to_list, slice_index_or, true, ℕ, ◌&&◌, ◌+◌, ◌==◌, ◌^◌, ◌∷◌}
use Rattle.tierra_model.specs.declared.limits.TheConstants.{MOST_SIZE}
use Rattle.tierra_model.specs.declared.creatures.Block.{Block}
use Rattle.tierra_model.specs.declared.creatures.Creature.{Creature}
use Rattle.tierra_model.specs.declared.creatures.Effort.{Effort}
use Rattle.tierra_model.specs.Blocks.{is_in}
use Rattle.tierra_model.specs.Counting.{one_if, sum_of}
use Rattle.tierra_model.specs.Individuals.{with_effort_of}
use Rattle.tierra_model.specs.World.{Genotype}
use Rattle.world_state.specs.declared.fields.StoredGenotype.{StoredGenotype}
use Rattle.world_state.specs.declared.saving.Saving.{Saving}

abbrev pub is_code_number : ℕ → Bool
is_code_number v = nat_lt v 32

-- ---- creatures

abbrev pub is_block_in : ℕ → Block → Bool
is_block_in n b = nat_le 1 b.size && nat_le b.size MOST_SIZE && nat_le (b.at + b.size) n

abbrev pub is_daughter_in : ℕ → Option Block → Bool
is_daughter_in n None = true
is_daughter_in n (Some b) = is_block_in n b

abbrev pub is_placed : ℕ → Creature → Bool
is_placed n c = is_block_in n c.own && is_daughter_in n c.daughter

-- the processor's places are in a soup of n cells and on the stack
abbrev pub has_places : ℕ → Creature → Bool
has_places n c = nat_lt c.ip n && nat_lt c.sp 10

abbrev pub has_counts : ℕ → Creature → Bool
has_counts limit c = nat_le c.errors limit && nat_le c.moved limit && nat_le c.ran limit && nat_le c.bred limit

-- ---- genotypes and savings

abbrev pub is_effort : Option Effort → Bool
is_effort None = true
is_effort (Some e) = nat_le 1 e.ran

abbrev pub is_code : List ℕ → Bool
is_code code = nat_le 1 (length code) && nat_le (length code) MOST_SIZE && list_all is_code_number code

abbrev pub is_genotype : ℕ → StoredGenotype → Bool
is_genotype limit f = is_code f.code && nat_le f.total limit && is_effort f.first_effort && is_effort f.second_effort

abbrev pub is_saving : ℕ → Saving → Bool
is_saving quanta s = nat_le s.quantum quanta && is_effort s.first_effort && is_effort s.second_effort

-- ---- tests that walk a list with a state

unfoldable pub passes : {S X : Type 0} → (S → X → Option S) → S → List X → Bool
passes step s [] = true
passes step s (x ∷ xs) = elim (step s x) [ None ↦ false | Some t ↦ passes step t xs ]

-- a creature's number is above those of the creatures before it, and below the next birth number
abbrev pub number_step : ℕ → ℕ → Creature → Option ℕ
number_step next low c = if nat_le low c.id && nat_lt c.id next then Some (c.id + 1) else None

-- a genotype's parent, if it has one, is before it
abbrev pub is_parent : ℕ → Option ℕ → Bool
is_parent k None = true
is_parent k (Some p) = nat_lt p k

abbrev pub parent_step : ℕ → StoredGenotype → Option ℕ
parent_step k f = if is_parent k f.parent then Some (k + 1) else None

-- a saving is not of an earlier quantum than the one before it
abbrev pub rising_step : ℕ → Saving → Option ℕ
rising_step q s = if nat_le q s.quantum then Some s.quantum else None

-- stands in for an element past the end of a list
abbrev pub no_found : StoredGenotype
no_found =
    record { code = []; parent = None; first_quantum = 0; total = 0; first_effort = None; second_effort = None }

-- whether genotype k ever had save_at creatures or more
abbrev pub reaches : ℕ → List StoredGenotype → ℕ → Bool
reaches total stored k = nat_le total (slice_index_or stored k no_found).total

abbrev pub no_saving : Saving
no_saving = record { genotype = 0; quantum = 0; first_effort = None; second_effort = None }

-- what a saving adds to the size of its quantum
abbrev pub saving_size : List StoredGenotype → Saving → ℕ
saving_size stored s = length (slice_index_or stored s.genotype no_found).code + 100

-- the size of the saving's quantum up to and with it; run is the quantum of the saving before, and its size so far
abbrev pub counted : List StoredGenotype → ℕ × ℕ → Saving → ℕ
counted stored run s = (if s.quantum == run.0 then run.1 else 0) + saving_size stored s

-- the savings of a quantum, which are consecutive, stay below 2 ^ 30 in total
abbrev pub size_step : List StoredGenotype → ℕ × ℕ → Saving → Option (ℕ × ℕ)
size_step stored run s =
    if nat_lt (counted stored run s) (2 ^ 30) then Some (s.quantum, counted stored run s) else None

-- ---- blocks

-- the blocks of a creature, and those of all the living
abbrev pub blocks_of : Creature → List Block
blocks_of c = c.own ∷ option_to_list c.daughter

abbrev pub blocks_in : List Creature → List Block
blocks_in living = flat_map blocks_of living

-- how many of the blocks contain the cell
abbrev pub covers : List Block → ℕ → ℕ
covers bs p = sum_of (λ b. one_if (is_in b p)) bs

-- a block does not begin before the end of those before it
abbrev pub apart_step : ℕ → Block → Option ℕ
apart_step end b = if nat_le end b.at then Some (b.at + b.size) else None

-- ---- genotypes entered again

-- the genotypes after genotype k gets an effort for daughter number bred, if there is one
abbrev pub noted : ℕ → ℕ → Option Effort → List Genotype → List Genotype
noted k bred None gs = gs
noted k bred (Some e) gs = with_effort_of k bred e gs

-- ---- the lists, each by itself

abbrev pub are_living : ℕ → ℕ → ℕ → ℕ → List Creature → Bool
are_living n count next limit living =
    passes (number_step next) 1 living && list_all (is_placed n) living && list_all (has_places n) living
    && list_all (λ c. nat_lt c.genotype count) living && list_all (has_counts limit) living

abbrev pub are_found : ℕ → List StoredGenotype → Bool
are_found limit stored = list_all (is_genotype limit) stored && passes parent_step 0 stored

abbrev pub are_saved : ℕ → List Saving → Bool
are_saved quanta saved = list_all (is_saving quanta) saved && passes rising_step 0 saved
