use Rattle.std.proofs.Common.{rules}
use Rattle.test_desks.proofs.KeptSteps.{kept_tell}
use Rattle.test_desks.proofs.mem_desk.MemDesk.note_tell.Goals as goal

pub invariant_of-self-2 : goal.invariant_of-self-2
invariant_of-self-2 c = (
  kept_tell c.self.inside.image.items c.self.inside.calls.items c.push_reserved.new.self.items c.args.piece.now _ _ c.self.inside.told.items
      c.extend_from_slice.new.self.items c.self.inside.synced c.self.inside.tells (search rules) (search rules) c.self.invariant.0,
  c.self.invariant.1,
)
