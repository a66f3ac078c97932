-- The yard: what the reaper queue shows of each creature.
use Rattle.std.specs.Prelude.{Bool, List, None, if◌then◌else◌, map, ℕ, ◌+◌, ◌==◌, ◌^◌}
use Rattle.tierra_model.specs.declared.creatures.Creature.{Creature}
use Rattle.tierra_model.specs.declared.creatures.Standing.{Standing}
use Rattle.tierra_model.specs.Blocks.{no_block}
use Rattle.tierra_model.specs.Living.{one_of}
use Rattle.tierra_model.specs.World.{World}

abbrev pub standing : Creature → Standing
standing c = record { id = c.id; errors = c.errors; own = c.own; daughter = c.daughter }

abbrev pub yard : World → List Standing
yard w = map (λ id. standing (one_of w.living id)) w.reaper

-- the standings, with that of c in place of the one that has its birth number
abbrev pub with_standing : Creature → List Standing → List Standing
with_standing c standings = map (λ x. if x.id == c.id then standing c else x) standings

abbrev pub is_standing_of : Creature → Standing → Bool
is_standing_of c x = x.id == c.id

-- what a place past the end of a yard gives
abbrev pub no_standing : Standing
no_standing = record { id = 0; errors = 0; own = no_block; daughter = None }

-- the number that stands for newborn k of a quantum, which no creature of a sound world has
abbrev pub stand_in : ℕ → ℕ
stand_in k = 2 ^ 63 + k
