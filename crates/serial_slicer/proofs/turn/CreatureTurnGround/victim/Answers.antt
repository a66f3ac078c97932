use Rattle.std.proofs.Common.{◌∙◌}
use Rattle.serial_slicer.proofs.Turns.{runs, same_victim}
use Rattle.serial_slicer.proofs.turn.CreatureTurnGround.victim.Goals as goal

pub victim-requires : goal.victim-requires
victim-requires c = let t = c.args.self.now in runs t.creature t.sole.now 0 c.requires

pub returns-clause-victim : goal.returns-clause-victim
returns-clause-victim c = let t = c.args.self.now in c.victim.ensures ∙ same_victim t.creature t.sole.now 0 c.requires
