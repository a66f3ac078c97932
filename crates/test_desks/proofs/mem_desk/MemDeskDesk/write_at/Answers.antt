use Rattle.std.proofs.Common.{length}
use Rattle.test_desks.proofs.DeskSteps.{too_long_crash}
use Rattle.test_desks.proofs.mem_desk.MemDeskDesk.write_at.Goals as goal

pub returns-then-at-gt-MAX_LEN-clause-crash : goal.returns-then-at-gt-MAX_LEN-clause-crash
returns-then-at-gt-MAX_LEN-clause-crash c =
    too_long_crash c.args.self.now c.call_plainly.new.self c.args.at (length c.args.piece.now) _ c.call_plainly.ensures.noted
