use Rattle.std.proofs.Common.{◌≡◌, length, drop}
use Rattle.test_desks.specs.Calls.{file_with, picked_piece}
use Rattle.test_desks.specs.Fits.{Fits}
use Rattle.test_desks.proofs.mem_desk.crashed.Given as goal

abbrev pub invariant-loop-record : goal.invariant-loop-record
invariant-loop-record l = (file_with (picked_piece l.pick) l.image.items (drop l.record-index l.since) ≡ file_with (picked_piece l.pick) l.durable l.since)
    × Fits (length l.image.items) (drop l.record-index l.since)
