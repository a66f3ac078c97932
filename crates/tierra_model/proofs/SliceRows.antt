-- Worked examples, computed: slices by size, at both bounds.
use Rattle.std.proofs.Common.{◌≡◌, [], ◌∷◌, refl, pos, replicate, lit≤, true}
use Rattle.std.specs.Prelude.{None}
use Rattle.tierra_model.specs.declared.creatures.Creature.{Creature}
use Rattle.tierra_model.specs.declared.parameters.Settings.{Settings}
use Rattle.tierra_model.specs.Quantum.{quantum, slice_of}
use Rattle.tierra_model.specs.Serial.{start}
use Rattle.tierra_model.proofs.Computing.{quanta}
use Rattle.tierra_model.proofs.Examples.{one, soup_of}

-- a quarter of the size, and a hundred times the size
abbrev pub quarters : Settings
quarters = record (soup_of 101 (lit≤ tt, lit≤ tt)) { slice_by_size = true }

abbrev pub hundredfold : Settings
hundredfold = record quarters { slice_num = 100; slice_den = 1; by_size = (lit≤ tt, lit≤ tt, lit≤ tt, lit≤ tt) }

-- a fourth of 3, 4, 7 and 8
pub slice-3 : slice_of 3 quarters ≡ 1
slice-3 = refl

pub slice-4 : slice_of 4 quarters ≡ 1
slice-4 = refl

pub slice-7 : slice_of 7 quarters ≡ 1
slice-7 = refl

pub slice-8 : slice_of 8 quarters ≡ 2
slice-8 = refl

-- a hundred times 99, 100 and 101
pub slice-99 : slice_of 99 hundredfold ≡ 9900
slice-99 = refl

pub slice-100 : slice_of 100 hundredfold ≡ 10000
slice-100 = refl

pub slice-101 : slice_of 101 hundredfold ≡ 10000
slice-101 = refl

-- of three cells `inc_a` one instruction runs
abbrev pub small : Creature
small =
    record {
      id = 1;
      own = record { at = 0; size = 3 };
      daughter = None;
      moved = 0;
      ax = pos 1;
      bx = pos 0;
      cx = pos 0;
      dx = pos 0;
      ip = 1;
      stack = replicate 10 (pos 0);
      sp = 0;
      flag = 0;
      errors = 0;
      genotype = 0;
      ran = 1;
      bred = 0;
    }

pub small-living : (quantum (start (one quarters 0 (8 ∷ 8 ∷ 8 ∷ [])))).living ≡ small ∷ []
unfolding quanta
small-living = refl

-- 101 cells nop_0 fill their soup: 10,000 instructions are 99 turns and one more
abbrev pub large : Creature
large =
    record {
      id = 1;
      own = record { at = 0; size = 101 };
      daughter = None;
      moved = 0;
      ax = pos 0;
      bx = pos 0;
      cx = pos 0;
      dx = pos 0;
      ip = 1;
      stack = replicate 10 (pos 0);
      sp = 0;
      flag = 0;
      errors = 0;
      genotype = 0;
      ran = 10000;
      bred = 0;
    }

pub large-living : (quantum (start (one hundredfold 0 (replicate 101 0)))).living ≡ large ∷ []
unfolding quanta
large-living = refl
