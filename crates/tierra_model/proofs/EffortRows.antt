-- Worked examples, computed: efforts, and a disturbance.
use Rattle.std.proofs.Common.{◌≡◌, lit≤, [], ◌∷◌, refl, pos, replicate}
use Rattle.std.specs.Prelude.{Some, None, map}
use Rattle.tierra_model.specs.declared.creatures.Creature.{Creature}
use Rattle.tierra_model.specs.Quantum.{quantum}
use Rattle.tierra_model.specs.World.{Genotype, front, genotype_at}
use Rattle.tierra_model.specs.Room.{filled, is_owned}
use Rattle.tierra_model.specs.Serial.{start, serial}
use Rattle.tierra_model.specs.Log.{events_of}
use Rattle.tierra_model.specs.declared.events.Event.TheVariants as event
use Rattle.tierra_model.proofs.Computing.{quanta}
use Rattle.tierra_model.proofs.Examples.{alone, four}

-- the ancestor's first two daughters, in a small soup
pub after_99-second : (genotype_at (serial (alone 1000 (lit≤ tt, lit≤ tt)) 99).genotypes 0).second_effort ≡ None
unfolding quanta
after_99-second = refl

pub after_100-first : (genotype_at (serial (alone 1000 (lit≤ tt, lit≤ tt)) 100).genotypes 0).first_effort ≡ Some (record { ran = 839; moved = 80 })
unfolding quanta
after_100-first = refl

pub after_100-second : (genotype_at (serial (alone 1000 (lit≤ tt, lit≤ tt)) 100).genotypes 0).second_effort ≡ Some (record { ran = 813; moved = 80 })
unfolding quanta
after_100-second = refl

-- creature 2 ran `inc_b`, then the cells up to 34, where `inc_c` and `dec_c` stand
abbrev pub walked : Creature
walked =
    record {
      id = 2;
      own = record { at = 10; size = 1 };
      daughter = None;
      moved = 0;
      ax = pos 0;
      bx = pos 1;
      cx = pos 0;
      dx = pos 0;
      ip = 35;
      stack = replicate 10 (pos 0);
      sp = 0;
      flag = 0;
      errors = 0;
      genotype = 1;
      ran = 25;
      bred = 0;
    }

-- creature 4 has not run
abbrev pub waiting : Creature
waiting =
    record {
      id = 4;
      own = record { at = 30; size = 1 };
      daughter = None;
      moved = 0;
      ax = pos 0;
      bx = pos 0;
      cx = pos 0;
      dx = pos 0;
      ip = 30;
      stack = replicate 10 (pos 0);
      sp = 0;
      flag = 0;
      errors = 0;
      genotype = 3;
      ran = 0;
      bred = 0;
    }

pub disturbed-living : (serial four 2).living ≡ walked ∷ waiting ∷ []
unfolding quanta
disturbed-living = refl

pub disturbed-deaths : (serial four 2).deaths ≡ 2
unfolding quanta
disturbed-deaths = refl

pub disturbed-filled : filled 100 (is_owned (serial four 2).living) ≡ 2
unfolding quanta
disturbed-filled = refl

pub disturbed-front : front (serial four 2) ≡ waiting
unfolding quanta
disturbed-front = refl

pub disturbed-genotypes : map (λ (g : Genotype). g.total) (serial four 2).genotypes ≡ 1 ∷ 1 ∷ 1 ∷ 1 ∷ []
unfolding quanta
disturbed-genotypes = refl

pub disturbed-events : events_of (quantum (start four)) ≡ event.Reap 0 ∷ event.Reap 1 ∷ []
unfolding quanta
disturbed-events = refl
