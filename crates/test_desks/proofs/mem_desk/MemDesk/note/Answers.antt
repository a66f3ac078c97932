use Rattle.std.proofs.Common.{sym, add-zero}
use Rattle.test_desks.proofs.KeptSteps.{kept_plain}
use Rattle.test_desks.proofs.mem_desk.MemDesk.note.Goals as goal

pub invariant_of-self-then-tell : goal.invariant_of-self-then-tell
invariant_of-self-then-tell c = (
  kept_plain c.self.inside.image.items c.self.inside.calls.items c.push.new.self.items c.args.call c.args.failed _ _ _ c.self.inside.synced c.self.inside.tells
      _ c.in_ok-push.ensures.items c.requires (rw (← c.if-tell.ensures)) c.self.invariant.0,
  c.self.invariant.1,
)

pub invariant_of-self-else-tell : goal.invariant_of-self-else-tell
invariant_of-self-else-tell c = (
  kept_plain c.self.inside.image.items c.self.inside.calls.items c.push.new.self.items c.args.call c.args.failed _ _ _ c.self.inside.synced c.self.inside.tells
      _ c.in_ok-push.ensures.items c.requires (rw (← c.if-tell.ensures) (sym (add-zero c.self.inside.tells))) c.self.invariant.0,
  c.self.invariant.1,
)
