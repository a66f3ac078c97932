-- What the running record shares, while a quantum runs, with the record that the world has at its front.
use Rattle.std.proofs.Common.{◌≡◌}
use Rattle.tierra_model.specs.declared.creatures.Creature.{Creature}
use Rattle.tierra_model.specs.Replay.{RecordFits}

pub record Shares (c after : Creature) : Type 0 where
  pub id : after.id ≡ c.id
  pub own : after.own ≡ c.own
  pub daughter : after.daughter ≡ c.daughter
  pub errors : after.errors ≡ c.errors
  pub genotype : after.genotype ≡ c.genotype
  pub bred : after.bred ≡ c.bred

pub shares-fits : (c after : Creature) → Shares c after → RecordFits c after
shares-fits c after f = record { id = f.id; own = f.own; daughter = f.daughter; errors = f.errors; genotype = f.genotype }
