use Rattle.test_desks.proofs.DeskSteps.{tells_by}
use Rattle.test_desks.proofs.mem_desk.MemDesk.call_tell.Goals as goal

pub returns-clause-tells : goal.returns-clause-tells
returns-clause-tells c =
    tells_by c.settle_tell.result c.args.self.now c.note_tell-told.new.self c.settle_tell.new.self c.args.piece.now c.args.failed c.note_tell-told.result
    c.settle_tell.ensures.answer c.note_tell-told.ensures.ok c.note_tell-told.ensures.err c.settle_tell.ensures.noted c.settle_tell.ensures.starved
    c.note_tell-told.ensures.sound
