-- Worked examples, computed: the ancestor begins, and divides.
use Rattle.std.proofs.Common.{◌≡◌, lit≤, [], ◌∷◌, refl, pos, replicate}
use Rattle.std.specs.Prelude.{Some, None}
use Rattle.tierra_model.specs.declared.creatures.Creature.{Creature}
use Rattle.tierra_model.specs.World.{front}
use Rattle.tierra_model.specs.Serial.{serial}
use Rattle.tierra_model.proofs.Computing.{quanta}
use Rattle.tierra_model.proofs.Examples.{alone}

-- after 25 instructions it knows its size
abbrev pub measured : Creature
measured =
    record {
      id = 1;
      own = record { at = 0; size = 80 };
      daughter = None;
      moved = 0;
      ax = pos 80;
      bx = pos 0;
      cx = pos 80;
      dx = pos 4;
      ip = 25;
      stack = replicate 10 (pos 0);
      sp = 0;
      flag = 0;
      errors = 0;
      genotype = 0;
      ran = 25;
      bred = 0;
    }

-- in the default soup
pub after_1 : front (serial (alone 60000 (lit≤ tt, lit≤ tt)) 1) ≡ measured
unfolding quanta
after_1 = refl

-- after 50 it has copied two cells: 36 up to the loop, a turn of 10, and 4
abbrev pub copying : Creature
copying =
    record {
      id = 1;
      own = record { at = 0; size = 80 };
      daughter = Some (record { at = 80; size = 80 });
      moved = 2;
      ax = pos 81;
      bx = pos 1;
      cx = pos 78;
      dx = pos 4;
      ip = 56;
      stack = pos 0 ∷ pos 29 ∷ pos 80 ∷ pos 0 ∷ pos 80 ∷ pos 0 ∷ pos 0 ∷ pos 0 ∷ pos 0 ∷ pos 0 ∷ [];
      sp = 4;
      flag = 0;
      errors = 0;
      genotype = 0;
      ran = 50;
      bred = 0;
    }

pub after_2 : front (serial (alone 400 (lit≤ tt, lit≤ tt)) 2) ≡ copying
unfolding quanta
after_2 = refl

-- after 825 instructions it has copied 79: 36, 78 turns of 10, and 9
abbrev pub nearly_copied : Creature
nearly_copied =
    record {
      id = 1;
      own = record { at = 0; size = 80 };
      daughter = Some (record { at = 80; size = 80 });
      moved = 79;
      ax = pos 159;
      bx = pos 79;
      cx = pos 1;
      dx = pos 4;
      ip = 61;
      stack = pos 0 ∷ pos 29 ∷ pos 80 ∷ pos 0 ∷ pos 80 ∷ pos 0 ∷ pos 0 ∷ pos 0 ∷ pos 0 ∷ pos 0 ∷ [];
      sp = 4;
      flag = 0;
      errors = 0;
      genotype = 0;
      ran = 825;
      bred = 0;
    }

pub after_33 : front (serial (alone 400 (lit≤ tt, lit≤ tt)) 33) ≡ nearly_copied
unfolding quanta
after_33 = refl

-- after 850: it divided at the 839th, and then jumps, takes a block, calls, goes to the loop and copies a cell
abbrev pub mother : Creature
mother =
    record {
      id = 1;
      own = record { at = 0; size = 80 };
      daughter = Some (record { at = 160; size = 80 });
      moved = 1;
      ax = pos 160;
      bx = pos 0;
      cx = pos 80;
      dx = pos 4;
      ip = 52;
      stack = pos 0 ∷ pos 29 ∷ pos 160 ∷ pos 0 ∷ pos 80 ∷ pos 0 ∷ pos 0 ∷ pos 0 ∷ pos 0 ∷ pos 0 ∷ [];
      sp = 4;
      flag = 0;
      errors = 0;
      genotype = 0;
      ran = 11;
      bred = 1;
    }

-- the newborn, which has run nothing
abbrev pub daughter : Creature
daughter =
    record {
      id = 2;
      own = record { at = 80; size = 80 };
      daughter = None;
      moved = 0;
      ax = pos 0;
      bx = pos 0;
      cx = pos 0;
      dx = pos 0;
      ip = 80;
      stack = replicate 10 (pos 0);
      sp = 0;
      flag = 0;
      errors = 0;
      genotype = 0;
      ran = 0;
      bred = 0;
    }

pub after_34 : (serial (alone 400 (lit≤ tt, lit≤ tt)) 34).births ≡ 1
unfolding quanta
after_34 = refl

pub after_34-living : (serial (alone 400 (lit≤ tt, lit≤ tt)) 34).living ≡ mother ∷ daughter ∷ []
unfolding quanta
after_34-living = refl

pub after_34-saved : (serial (alone 400 (lit≤ tt, lit≤ tt)) 34).saved
    ≡ (record { genotype = 0; quantum = 34; first_effort = Some (record { ran = 839; moved = 80 }); second_effort = None }) ∷ []
unfolding quanta
after_34-saved = refl

-- after 33 quanta of its own the daughter is where its mother was, 80 cells on; its block is after its mother's second
abbrev pub second_nearly_copied : Creature
second_nearly_copied =
    record {
      id = 2;
      own = record { at = 80; size = 80 };
      daughter = Some (record { at = 240; size = 80 });
      moved = 79;
      ax = pos 319;
      bx = pos 159;
      cx = pos 1;
      dx = pos 4;
      ip = 141;
      stack = pos 0 ∷ pos 109 ∷ pos 240 ∷ pos 80 ∷ pos 80 ∷ pos 0 ∷ pos 0 ∷ pos 0 ∷ pos 0 ∷ pos 0 ∷ [];
      sp = 4;
      flag = 0;
      errors = 0;
      genotype = 0;
      ran = 825;
      bred = 0;
    }

pub after_100 : front (serial (alone 1000 (lit≤ tt, lit≤ tt)) 100) ≡ second_nearly_copied
unfolding quanta
after_100 = refl
