use Rattle.std.proofs.Common.{sym}
use Rattle.serial_slicer.proofs.Turns.{now}
use Rattle.serial_slicer.proofs.turn.CreatureTurnGround.front.Goals as goal

pub returns : goal.returns
returns c = let t = c.args.self.now in sym (now t.creature t.sole.now 0 c.requires)
