use Rattle.std.specs.List.{list_any}
use Rattle.tierra_model.specs.Reads.{writes}
use Rattle.quantum_run.proofs.Forgetting.{cells-forgotten, events-forgotten, forget-cell, forget-none, forget-write}
use Rattle.quantum_run.proofs.cells.forget.Goals.{in-Write, in_default}
use Rattle.quantum_run.proofs.cells.forget.Goals as goal

pub loop-at-preserved : goal.loop-at-preserved
loop-at-preserved c =
    rw c.forget_at.ensures
    (forget-cell c.args.cells.now (λ p. list_any (writes p) c.args.events.now) c.loop-at.at-index c.loop-at.marks.items c.loop-at-test.true c.loop-at.invariant)

pub loop-event-init : goal.loop-event-init
loop-event-init c =
    cells-forgotten c.args.cells.now (λ p. list_any (writes p) c.args.events.now) c.loop-at.at-index c.loop-at.marks.items c.loop-at-test.false
    c.loop-at.invariant

pub loop-event-preserved : goal.loop-event-preserved
loop-event-preserved c = elim c.match-event.branch [
  | in-Write w ↦
      rw (w.marks-is, w.forget_at-in-Write.ensures)
      (forget-write c.args.events.now c.loop-event.event-index w.in-Write.at w.in-Write.value _ c.loop-event.marks.items c.loop-event-test.true w.in-Write.is
      c.loop-event.invariant)
  | in_default w ↦
      rw w.marks-is (forget-none c.args.events.now c.loop-event.event-index _ c.loop-event.marks.items c.loop-event-test.true w.in_default.not-Write
      c.loop-event.invariant)
]

pub returns : goal.returns
returns c = events-forgotten c.args.events.now c.loop-event.event-index c.loop-event.marks.items c.loop-event-test.false c.loop-event.invariant
