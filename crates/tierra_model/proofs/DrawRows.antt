-- Worked examples, computed: a draw, and a finding that stands.
use Rattle.std.proofs.Common.{◌≡◌, [], ◌∷◌, refl, pos, replicate, lit≤}
use Rattle.std.specs.Prelude.{None}
use Rattle.tierra_model.specs.declared.events.Event.TheVariants as event
use Rattle.tierra_model.specs.Draw.{word}
use Rattle.tierra_model.specs.World.{front}
use Rattle.tierra_model.specs.Serial.{start}
use Rattle.tierra_model.specs.Findings.{Finding, Stands}
use Rattle.tierra_model.proofs.SearchRows.{zeros_from}
use Rattle.tierra_model.proofs.Computing.{draws, scenes}
use Rattle.tierra_model.proofs.Examples.{hundred, two}

pub word-0 : word (replicate 32 0) 0 0 ≡ 804192318
unfolding draws
word-0 = refl

abbrev pub first_job : Finding
first_job =
    record {
      settings = hundred;
      quantum = 1;
      before = front (start two);
      reads = record { cells = (0, 9) ∷ (1, 26) ∷ zeros_from 2 23; free = None; yard = None };
      events = event.Write 0 26 ∷ [];
      after = record (front (start two)) { ip = 25; bx = pos 1; ran = 25 };
    }

pub first_job-stands : Stands first_job
unfolding scenes
first_job-stands = record { reads = refl; events = refl; after = refl; at_least_one = lit≤ tt; at_most_limit = lit≤ tt }
