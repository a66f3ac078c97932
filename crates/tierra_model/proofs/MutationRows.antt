-- Worked examples, computed: flaws, and bits that flip. The seed is 32 zeros. In quantum 1 the first flaws are 1 and -1,
-- the copies of the first instructions flip the bits 4 and 1, and of 100 cells the background flips bit 0 of cell 5.
use Rattle.std.proofs.Common.{◌≡◌, [], ◌∷◌, refl, pos, negsuc, replicate, lit≤}
use Rattle.std.specs.Prelude.{None}
use Rattle.tierra_model.specs.declared.creatures.Creature.{Creature}
use Rattle.tierra_model.specs.declared.events.Event.TheVariants as event
use Rattle.tierra_model.specs.declared.parameters.Settings.{Settings}
use Rattle.tierra_model.specs.Log.{events_of}
use Rattle.tierra_model.specs.Quantum.{quantum}
use Rattle.tierra_model.specs.Serial.{start}
use Rattle.tierra_model.specs.Setups.{SetupFields}
use Rattle.tierra_model.proofs.Computing.{draws, quanta}
use Rattle.tierra_model.proofs.Examples.{hundred, one, two}

-- ---- a flaw of each sign

-- two instructions, each of them flawed
abbrev pub flawed : Settings
flawed = record hundred { slice_size = 2; slice = (lit≤ tt, lit≤ tt); flaw_rate = 1 }

-- `inc_a` adds 2, and `dec_c` takes 2
abbrev pub counts : SetupFields
counts = one flawed 0 (8 ∷ 10 ∷ [])

abbrev pub counted : Creature
counted =
    record {
      id = 1;
      own = record { at = 0; size = 2 };
      daughter = None;
      moved = 0;
      ax = pos 2;
      bx = pos 0;
      cx = negsuc 1;
      dx = pos 0;
      ip = 2;
      stack = replicate 10 (pos 0);
      sp = 0;
      flag = 0;
      errors = 0;
      genotype = 0;
      ran = 2;
      bred = 0;
    }

pub counts-living : (quantum (start counts)).living ≡ counted ∷ []
unfolding quanta draws
counts-living = refl

-- `or1` flips bit 1 in the place of bit 0, and `shl` leaves cx
abbrev pub shifts : SetupFields
shifts = one flawed 0 (2 ∷ 3 ∷ [])

abbrev pub shifted : Creature
shifted =
    record {
      id = 1;
      own = record { at = 0; size = 2 };
      daughter = None;
      moved = 0;
      ax = pos 0;
      bx = pos 0;
      cx = pos 2;
      dx = pos 0;
      ip = 2;
      stack = replicate 10 (pos 0);
      sp = 0;
      flag = 0;
      errors = 0;
      genotype = 0;
      ran = 2;
      bred = 0;
    }

pub shifts-living : (quantum (start shifts)).living ≡ shifted ∷ []
unfolding quanta draws
shifts-living = refl

pub shifts-events : events_of (start shifts) ≡ []
unfolding quanta draws
shifts-events = refl

-- ---- a copy's flip

-- `inc_b mov_iab`: the second instruction copies cell 1, which holds 26, to cell 0, and flips bit 1 of the copy
abbrev pub copies : SetupFields
copies = one (record hundred { slice_size = 2; slice = (lit≤ tt, lit≤ tt); copy_rate = 1 }) 0 (9 ∷ 26 ∷ [])

abbrev pub copied : Creature
copied =
    record {
      id = 1;
      own = record { at = 0; size = 2 };
      daughter = None;
      moved = 0;
      ax = pos 0;
      bx = pos 1;
      cx = pos 0;
      dx = pos 0;
      ip = 2;
      stack = replicate 10 (pos 0);
      sp = 0;
      flag = 0;
      errors = 0;
      genotype = 0;
      ran = 2;
      bred = 0;
    }

pub copies-events : events_of (start copies) ≡ event.Write 0 24 ∷ []
unfolding quanta draws
copies-events = refl

pub copies-living : (quantum (start copies)).living ≡ copied ∷ []
unfolding quanta draws
copies-living = refl

-- ---- a background flip

-- The creature's one cell is cell 5. Its `inc_a` becomes `inc_b` before it runs.
abbrev pub flips : SetupFields
flips = one (record hundred { slice_size = 1; slice = (lit≤ tt, lit≤ tt); back_rate = 1 }) 5 (8 ∷ [])

abbrev pub flipped : Creature
flipped =
    record {
      id = 1;
      own = record { at = 5; size = 1 };
      daughter = None;
      moved = 0;
      ax = pos 0;
      bx = pos 1;
      cx = pos 0;
      dx = pos 0;
      ip = 6;
      stack = replicate 10 (pos 0);
      sp = 0;
      flag = 0;
      errors = 0;
      genotype = 0;
      ran = 1;
      bred = 0;
    }

pub flips-events : events_of (start flips) ≡ event.Write 5 9 ∷ []
unfolding quanta draws
flips-events = refl

pub flips-living : (quantum (start flips)).living ≡ flipped ∷ []
unfolding quanta draws
flips-living = refl

-- ---- all of them

-- The background writes 1 to cell 5. `inc_b` adds 2, so `mov_iab` copies cell 2, which holds 0, and flips bit 1 of the copy.
abbrev pub mutating : SetupFields
mutating = record two { settings = record hundred { back_rate = 1; copy_rate = 1; flaw_rate = 1 } }

abbrev pub mutated : Creature
mutated =
    record {
      id = 1;
      own = record { at = 0; size = 2 };
      daughter = None;
      moved = 0;
      ax = pos 0;
      bx = pos 2;
      cx = pos 0;
      dx = pos 0;
      ip = 25;
      stack = replicate 10 (pos 0);
      sp = 0;
      flag = 0;
      errors = 0;
      genotype = 0;
      ran = 25;
      bred = 0;
    }

abbrev pub untouched : Creature
untouched =
    record {
      id = 2;
      own = record { at = 90; size = 5 };
      daughter = None;
      moved = 0;
      ax = pos 0;
      bx = pos 0;
      cx = pos 0;
      dx = pos 0;
      ip = 90;
      stack = replicate 10 (pos 0);
      sp = 0;
      flag = 0;
      errors = 0;
      genotype = 1;
      ran = 0;
      bred = 0;
    }

pub mutating-events : events_of (start mutating) ≡ event.Write 5 1 ∷ event.Write 0 2 ∷ []
unfolding quanta draws
mutating-events = refl

pub mutating-living : (quantum (start mutating)).living ≡ mutated ∷ untouched ∷ []
unfolding quanta draws
mutating-living = refl
