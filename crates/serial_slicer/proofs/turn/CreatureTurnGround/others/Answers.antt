use Rattle.serial_slicer.proofs.Turns.{same_others}
use Rattle.serial_slicer.proofs.turn.CreatureTurnGround.others.Goals as goal

pub overflow_sub-result : goal.overflow_sub-result
overflow_sub-result c = let t = c.args.self.now in (same_others t.creature t.sole.now 0 c.requires c.reaper_len.result c.reaper_len.ensures).0

pub returns : goal.returns
returns c = let t = c.args.self.now in (same_others t.creature t.sole.now 0 c.requires c.reaper_len.result c.reaper_len.ensures).1
