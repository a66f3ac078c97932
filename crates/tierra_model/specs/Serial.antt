-- A run of one creature at a time: no versions, no reads, no reruns.
use Rattle.std.specs.Prelude.{List, None, [], drop, length, replicate, suc, take, zero, ℕ, ◌++◌, ◌+◌, ◌∷◌}
use Rattle.tierra_model.specs.declared.setups.Inoculum.{Inoculum}
use Rattle.tierra_model.specs.declared.parameters.Settings.{Settings}
use Rattle.tierra_model.specs.Quantum.{quantum}
use Rattle.tierra_model.specs.World.{World}
use Rattle.tierra_model.specs.Events.{with_creature}
use Rattle.tierra_model.specs.Setups.{SetupFields, block_of}

-- xs with ys in place of what it has from place at on
abbrev pub overwrite : List ℕ → ℕ → List ℕ → List ℕ
overwrite xs at ys = take at xs ++ ys ++ drop (at + length ys) xs

-- the world before any creature is put in
abbrev pub empty_world : Settings → World
empty_world s =
    record {
      settings = s;
      soup = replicate s.soup_size 0;
      living = [];
      slicer = [];
      reaper = [];
      genotypes = [];
      saved = [];
      births = 0;
      deaths = 0;
      next_birth = 1;
      quanta = 0;
    }

-- puts in the creatures in order: for each, first its code into the soup, then the creature
abbrev pub with_inocula : List Inoculum → World → World
with_inocula [] w = w
with_inocula (c ∷ cs) w =
    with_inocula cs
    (with_creature w.genotypes (block_of c) c.code None 0 (record w { soup = overwrite w.soup c.at c.code }))

unfoldable pub start : SetupFields → World
start setup = with_inocula setup.creatures (empty_world setup.settings)

-- the world after n quanta
unfoldable pub serial : SetupFields → ℕ → World
serial setup zero = start setup
serial setup (suc n) = quantum (serial setup n)
