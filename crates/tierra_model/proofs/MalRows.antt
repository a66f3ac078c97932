-- Worked examples, computed: a mal that reaps, and one that errs after it reaped.
use Rattle.std.proofs.Common.{◌≡◌, [], ◌∷◌, refl, pos, replicate}
use Rattle.std.specs.Prelude.{Some, None}
use Rattle.tierra_model.specs.declared.creatures.Creature.{Creature}
use Rattle.tierra_model.specs.declared.events.Event.TheVariants as event
use Rattle.tierra_model.specs.Quantum.{quantum}
use Rattle.tierra_model.specs.Serial.{start}
use Rattle.tierra_model.specs.Log.{events_of}
use Rattle.tierra_model.proofs.Computing.{quanta}
use Rattle.tierra_model.proofs.Examples.{asks, cramped}

pub asks-events : events_of (start asks) ≡ event.Reap 1 ∷ event.Mal 10 64 ∷ event.Good ∷ []
unfolding quanta
asks-events = refl

pub asks-world : (quantum (start asks)).deaths ≡ 1
unfolding quanta
asks-world = refl

-- the one that is left has its block, and has run 25 instructions
abbrev pub served : Creature
served =
    record {
      id = 1;
      own = record { at = 0; size = 10 };
      daughter = Some (record { at = 10; size = 64 });
      moved = 0;
      ax = pos 10;
      bx = pos 0;
      cx = pos 64;
      dx = pos 0;
      ip = 25;
      stack = replicate 10 (pos 0);
      sp = 0;
      flag = 0;
      errors = 0;
      genotype = 0;
      ran = 25;
      bred = 0;
    }

pub asks-living : (quantum (start asks)).living ≡ served ∷ []
unfolding quanta
asks-living = refl

-- the other one dies, and still no run of free cells is long enough
pub cramped-events : events_of (start cramped) ≡ event.Reap 1 ∷ event.Err ∷ []
unfolding quanta
cramped-events = refl

pub cramped-deaths : (quantum (start cramped)).deaths ≡ 1
unfolding quanta
cramped-deaths = refl

-- the mal was its ninth and last instruction, so the flag is up
abbrev pub refused : Creature
refused =
    record {
      id = 1;
      own = record { at = 50; size = 10 };
      daughter = None;
      moved = 0;
      ax = pos 0;
      bx = pos 0;
      cx = pos 64;
      dx = pos 0;
      ip = 59;
      stack = replicate 10 (pos 0);
      sp = 0;
      flag = 1;
      errors = 1;
      genotype = 0;
      ran = 9;
      bred = 0;
    }

pub cramped-living : (quantum (start cramped)).living ≡ refused ∷ []
unfolding quanta
cramped-living = refl
