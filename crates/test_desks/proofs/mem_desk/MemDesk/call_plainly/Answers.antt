use Rattle.test_desks.specs.MemDesk.{NotesDiskCall, file_of, disk_counted, disk_starved}
use Rattle.std.proofs.Common.{length}
use Rattle.test_desks.specs.FitSteps.{reads-told}
use Rattle.test_desks.proofs.NextSteps.{inside_plain}
use Rattle.test_desks.proofs.DeskSteps.{settles, disk_sound, plain_crash, disk_time, plain_reads, plain_told}
use Rattle.test_desks.proofs.mem_desk.MemDesk.call_plainly.Goals as goal
use Rattle.test_desks.proofs.mem_desk.MemDesk.call_plainly.Goals.{After-settle_disk}

notes : (c : After-settle_disk) → NotesDiskCall c.args.self.now c.args.call c.args.failed c.settle_disk.new.self
notes c = settles disk_counted disk_starved c.args.self.now c.note-noted.new.self c.settle_disk.new.self c.args.call c.args.failed c.note-noted.result
    c.note-noted.ensures.ok c.note-noted.ensures.err c.settle_disk.ensures.noted c.settle_disk.ensures.starved

pub returns-clause-file : goal.returns-clause-file
returns-clause-file c =
    let inside = inside_plain (length (file_of c.args.self.now)) c.args.call c.args.failed c.requires.plain in (
      reads-told c.args.self.now c.note-noted.ensures.sound,
      reads-told c.settle_disk.new.self (disk_sound c.args.self.now c.settle_disk.new.self c.args.call c.args.failed inside c.note-noted.ensures.sound
          (notes c)),
    )

pub returns-clause-untouched : goal.returns-clause-untouched
returns-clause-untouched c = record {
  reads = plain_reads c.args.self.now c.settle_disk.new.self c.args.call c.args.failed c.requires.plain c.note-noted.ensures.sound (notes c);
  crash = plain_crash c.args.self.now c.settle_disk.new.self c.args.call c.args.failed c.requires.plain (notes c);
}

pub returns-clause-uses : goal.returns-clause-uses
returns-clause-uses c =
    disk_time c.args.self.now c.settle_disk.new.self c.args.call c.args.failed (notes c)
    (plain_told c.args.self.now c.settle_disk.new.self c.args.call c.args.failed c.requires.plain (notes c))
