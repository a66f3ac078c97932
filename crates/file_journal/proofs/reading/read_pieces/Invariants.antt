use Rattle.std.proofs.Common.{◌≡◌, ◌≤◌, ◌-◌, length, take}
use Rattle.std.specs.Prelude.{IfSome}
use Rattle.desk_io.specs.Desk.{HasNoFault, Untouched, UsesDisk}
use Rattle.file_journal.proofs.reading.read_pieces.Given as goal

abbrev pub invariant-loop-at : goal.invariant-loop-at
invariant-loop-at g l = record {
  inside : l.at ≤ length l.bytes;
  bytes : IfSome (g.D.Desk.state l.fn.desk).reads (λ file. take l.at l.bytes ≡ take l.at file);
  untouched : Untouched (g.D.Desk.state l.fn.desk) (g.D.Desk.state l.desk);
  uses : UsesDisk (g.D.Desk.state l.fn.desk) (g.D.Desk.state l.desk) (g.D.Desk.state l.fn.desk).may_leave;
  sound : HasNoFault (g.D.Desk.state l.desk);
}

abbrev pub decreases-loop-at : goal.decreases-loop-at
decreases-loop-at g l = length l.bytes - l.at
