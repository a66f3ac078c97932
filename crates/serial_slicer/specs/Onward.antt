-- A run that goes on from a world.
use Rattle.std.specs.Prelude.{suc, zero, ℕ}
use Rattle.tierra_model.specs.Quantum.{quantum}
use Rattle.tierra_model.specs.World.{World}

-- the world after n more quanta
unfoldable pub after : ℕ → World → World
after zero w = w
after (suc n) w = quantum (after n w)
