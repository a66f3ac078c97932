use Rattle.file_desk.proofs.Printing.{is_tell_call}
use Rattle.file_desk.proofs.file_desk.FileDeskDesk.tell.Goals as goal

pub returns : goal.returns
returns g c = record {
  call = is_tell_call c.print.result c.tell_answer.result (g.W.Write.contents c.args.self.now.output) (g.W.Write.contents c.print.new.output)
      c.args.piece.now c.args.self.now.disk_faults c.args.self.now.tell_faults c.tell_answer.new.faults c.print.ensures.all c.print.ensures.partly
      c.tell_answer.ensures.value c.requires.sound.disk c.requires.sound.tell c.tell_answer.ensures.counted c.tell_answer.ensures.steady;
}
