use Rattle.std.proofs.Common.{◌≡◌, ◌↔◌, IsTrue, length, rules, subst}
use Rattle.test_desks.specs.MemDesk.{MemDeskState, IsDiskCallDue}
use Rattle.test_desks.proofs.mem_desk.MemDesk.is_disk_call_due.Goals as goal

pub returns : goal.returns
returns c =
    let calls : c.len-calls.result ≡ length c.self.inside.calls.items = search rules in
    let due = rw (c.deref.ensures.value, c.self.invariant.0.tells_are, calls) at c.is_next_due.ensures in
    subst (λ (d : MemDeskState). IsTrue c.is_next_due.result ↔ IsDiskCallDue d) c.self.view_is due
