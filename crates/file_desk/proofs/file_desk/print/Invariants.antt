-- The first bytes of the piece are written.
use Rattle.std.proofs.Common.{◌≤◌, ◌-◌, length, take}
use Rattle.desk_io.specs.Desk.{Appended}
use Rattle.file_desk.proofs.file_desk.print.Given as goal

abbrev pub invariant-loop-at : goal.invariant-loop-at
invariant-loop-at g l = (l.at ≤ length l.piece)
    × Appended (g.W.Write.contents l.fn.output) (take l.at l.piece) (g.W.Write.contents l.output)

abbrev pub decreases-loop-at : goal.decreases-loop-at
decreases-loop-at g l = length l.piece - l.at
