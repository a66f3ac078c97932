use Rattle.std.proofs.Common.{◌≡◌, take}
use Rattle.tierra_model.specs.World.{front}
use Rattle.tierra_model.specs.Replay.{after_events}
use Rattle.world_core.specs.Prepared.{codes_born}
use Rattle.world_core.proofs.prepared.newborn_codes.Given as goal

abbrev pub invariant-loop-i : goal.invariant-loop-i
invariant-loop-i l =
    (l.held ≡ (front (after_events l.running.world (take l.i l.events))).daughter) × (l.codes.items ≡ codes_born l.running.world (take l.i l.events))
