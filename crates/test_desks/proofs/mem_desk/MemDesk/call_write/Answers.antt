use Rattle.std.proofs.Common.{refl, length, ◌≤◌}
use Rattle.test_desks.specs.Fits.{IsInside}
use Rattle.test_desks.specs.MemDesk.{NotesDiskCall, file_of, disk_counted, disk_starved}
use Rattle.test_desks.specs.declared.call.Call.TheVariants.{Write}
use Rattle.test_desks.specs.FitSteps.{reads-told, of-file}
use Rattle.test_desks.proofs.KeptSteps.{are_bytes}
use Rattle.test_desks.proofs.DeskSteps.{settles, disk_sound, write_crash, disk_time, disk_told}
use Rattle.test_desks.proofs.mem_desk.MemDesk.call_write.Goals as goal
use Rattle.test_desks.proofs.mem_desk.MemDesk.call_write.Goals.{After-settle_disk}

notes : (c : After-settle_disk) → NotesDiskCall c.args.self.now (Write c.args.at c.args.piece.now) c.args.failed c.settle_disk.new.self
notes c = settles disk_counted disk_starved c.args.self.now c.note_write-noted.new.self c.settle_disk.new.self (Write c.args.at c.args.piece.now) c.args.failed
    c.note_write-noted.result c.note_write-noted.ensures.ok c.note_write-noted.ensures.err c.settle_disk.ensures.noted c.settle_disk.ensures.starved

pub returns-clause-file : goal.returns-clause-file
returns-clause-file c =
    let sound = c.note_write-noted.ensures.sound in
    let inside : IsInside (length (file_of c.args.self.now)) (Write c.args.at c.args.piece.now) =
    (of-file (λ xs. c.args.at ≤ length xs) c.args.self.now sound c.requires.inside, are_bytes c.args.piece.now c.type_inv.piece) in
    let call = Write c.args.at c.args.piece.now in (
      reads-told c.args.self.now sound,
      reads-told c.settle_disk.new.self (disk_sound c.args.self.now c.settle_disk.new.self call c.args.failed inside sound (notes c)),
    )

pub returns-clause-crash : goal.returns-clause-crash
returns-clause-crash c = write_crash c.args.self.now c.settle_disk.new.self c.args.at c.args.piece.now c.args.failed c.note_write-noted.ensures.sound (notes c)

pub returns-clause-uses : goal.returns-clause-uses
returns-clause-uses c =
    disk_time c.args.self.now c.settle_disk.new.self (Write c.args.at c.args.piece.now) c.args.failed (notes c)
    (disk_told c.args.self.now c.settle_disk.new.self (Write c.args.at c.args.piece.now) c.args.failed refl (notes c))
