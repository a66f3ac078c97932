-- Everything of a world but its settings, as bytes. Numbers are big-endian.
use Rattle.std.specs.Int.{cast_unsigned, w32}
use Rattle.std.specs.List.{flat_map}
use Rattle.std.specs.Prelude.{List, None, Option, Some, [], length, map, ℕ, ℤ, ◌++◌, ◌+◌, ◌∷◌}
use Rattle.byte_fields.specs.Writing.{effort_bytes, eight, four}
use Rattle.tierra_model.specs.declared.creatures.Block.{Block}
use Rattle.tierra_model.specs.declared.creatures.Creature.{Creature}
use Rattle.tierra_model.specs.Living.{one_of}
use Rattle.tierra_model.specs.World.{Genotype, Saving, World}

-- a register or a word of the stack, in two's complement
unfoldable pub register_bytes : ℤ → List ℕ
register_bytes v = four (cast_unsigned w32 v)

unfoldable pub block_bytes : Block → List ℕ
block_bytes b = four b.at ++ four b.size

-- 0 and 0 for no block, since no block has size 0
unfoldable pub daughter_bytes : Option Block → List ℕ
daughter_bytes None = four 0 ++ four 0
daughter_bytes (Some b) = four b.at ++ four b.size

unfoldable pub body_bytes : Creature → List ℕ
body_bytes c = eight c.id ++ block_bytes c.own ++ daughter_bytes c.daughter ++ eight c.moved

unfoldable pub registers_bytes : Creature → List ℕ
registers_bytes c = (register_bytes c.ax ++ register_bytes c.bx) ++ (register_bytes c.cx ++ register_bytes c.dx)

unfoldable pub stack_bytes : Creature → List ℕ
stack_bytes c = flat_map register_bytes c.stack ++ four c.sp ++ c.flag ∷ []

unfoldable pub processor_bytes : Creature → List ℕ
processor_bytes c = registers_bytes c ++ four c.ip ++ stack_bytes c

unfoldable pub count_bytes : Creature → List ℕ
count_bytes c = eight c.errors ++ eight c.genotype ++ eight c.ran ++ eight c.bred

unfoldable pub creature_bytes : Creature → List ℕ
creature_bytes c = body_bytes c ++ processor_bytes c ++ count_bytes c

-- a parent is written as its number plus one, and no parent as 0
unfoldable pub parent_bytes : Option ℕ → List ℕ
parent_bytes None = eight 0
parent_bytes (Some p) = eight (p + 1)

unfoldable pub genotype_bytes : Genotype → List ℕ
genotype_bytes g =
    four (length g.code) ++ g.code ++ parent_bytes g.parent ++ eight g.first_quantum ++ eight g.total
    ++ effort_bytes g.first_effort ++ effort_bytes g.second_effort

unfoldable pub saving_bytes : Saving → List ℕ
saving_bytes s = (eight s.genotype ++ eight s.quantum) ++ (effort_bytes s.first_effort ++ effort_bytes s.second_effort)

unfoldable pub soup_bytes : World → List ℕ
soup_bytes w = four w.settings.soup_size ++ w.soup

-- quanta, births, deaths and the next birth number
unfoldable pub counts_bytes : World → List ℕ
counts_bytes w = (eight w.quanta ++ eight w.births) ++ (eight w.deaths ++ eight w.next_birth)

-- the living, in the order of the slicer queue
unfoldable pub living_bytes : World → List ℕ
living_bytes w = four (length w.living) ++ flat_map creature_bytes (map (one_of w.living) w.slicer)

-- birth numbers from the top of the queue, one for each of the living
unfoldable pub reaper_bytes : World → List ℕ
reaper_bytes w = flat_map eight w.reaper

unfoldable pub genotypes_bytes : World → List ℕ
genotypes_bytes w = eight (length w.genotypes) ++ flat_map genotype_bytes w.genotypes

-- in the order of saving
unfoldable pub savings_bytes : World → List ℕ
savings_bytes w = eight (length w.saved) ++ flat_map saving_bytes w.saved

unfoldable pub state_bytes : World → List ℕ
state_bytes w =
    soup_bytes w ++ counts_bytes w ++ living_bytes w ++ reaper_bytes w ++ genotypes_bytes w ++ savings_bytes w
