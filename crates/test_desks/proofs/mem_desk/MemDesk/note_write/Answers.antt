use Rattle.std.proofs.Common.{◌≤◌, length, rules, subst, sym}
use Rattle.test_desks.specs.Fits.{IsMoment}
use Rattle.test_desks.specs.MemDesk.{MemDeskState, now, file_of}
use Rattle.test_desks.specs.FitSteps.{of-file}
use Rattle.test_desks.proofs.KeptSteps.{are_bytes, kept_write}
use Rattle.test_desks.proofs.mem_desk.MemDesk.note_write.Goals as goal

pub splice-requires : goal.splice-requires
splice-requires c =
    let sound = subst (λ (d : MemDeskState). IsMoment (now d)) c.self.view_is c.self.invariant.0.sound in
    let inside = of-file (λ xs. c.args.at ≤ length xs) c.args.self.now sound c.requires in
    rw (c.deref.ensures.value, c.file.ensures) inside

pub invariant_of-self-2 : goal.invariant_of-self-2
invariant_of-self-2 c =
    let kept = c.self.invariant.0 in
    let sound = subst (λ (d : MemDeskState). IsMoment (now d)) c.self.view_is kept.sound in
    let told = of-file (λ xs. c.args.at ≤ length xs) c.args.self.now sound c.requires in
    let inside = subst (λ (d : MemDeskState). c.args.at ≤ length (file_of d)) (sym c.self.view_is) told in (
      kept_write c.self.inside.image.items c.self.inside.calls.items c.push.new.self.items c.args.at c.args.piece.now c.args.failed _ _ _
          c.in_ok-next.next.items c.self.inside.synced c.self.inside.tells (search rules) (rw kept.file_is inside)
          (are_bytes c.args.piece.now c.type_inv.piece) (search rules) kept,
      c.self.invariant.1,
    )
