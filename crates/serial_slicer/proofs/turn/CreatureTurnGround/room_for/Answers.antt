use Rattle.std.proofs.Common.{◌∙◌}
use Rattle.serial_slicer.proofs.Turns.{runs, same_room}
use Rattle.serial_slicer.proofs.turn.CreatureTurnGround.room_for.Goals as goal

pub room_for-requires-clause-within : goal.room_for-requires-clause-within
room_for-requires-clause-within c = let t = c.args.self.now in runs t.creature t.sole.now 0 c.requires.ready

pub returns : goal.returns
returns c = let t = c.args.self.now in c.room_for.ensures ∙ same_room t.creature t.sole.now 0 c.requires.ready c.args.size
