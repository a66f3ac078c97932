use Rattle.std.proofs.Common.{rules}
use Rattle.test_desks.proofs.KeptSteps.{kept_sync}
use Rattle.test_desks.proofs.mem_desk.MemDesk.note_sync.Goals as goal

pub invariant_of-self-2 : goal.invariant_of-self-2
invariant_of-self-2 c =
    let kept = kept_sync c.self.inside.image.items c.self.inside.calls.items c.push.new.self.items _ _ c.self.inside.told.items c.self.inside.synced
    c.len-self-inside.result c.self.inside.tells (search rules) (search rules) c.self.invariant.0 in
    (rw (c.move_over.ensures.gone, c.move_over.ensures.moved c.self.inside.image.items) kept, c.self.invariant.1)
