use Rattle.std.proofs.Common.{refl}
use Rattle.test_desks.specs.MemDesk.{NotesDiskCall, disk_counted, disk_starved}
use Rattle.test_desks.specs.declared.call.Call.TheVariants.{Sync}
use Rattle.test_desks.specs.FitSteps.{reads-told}
use Rattle.test_desks.proofs.DeskSteps.{settles, disk_sound, sync_crash, disk_time, disk_told}
use Rattle.test_desks.proofs.mem_desk.MemDesk.call_sync.Goals as goal
use Rattle.test_desks.proofs.mem_desk.MemDesk.call_sync.Goals.{After-settle_disk}

notes : (c : After-settle_disk) → NotesDiskCall c.args.self.now Sync c.args.failed c.settle_disk.new.self
notes c = settles disk_counted disk_starved c.args.self.now c.note_sync-noted.new.self c.settle_disk.new.self Sync c.args.failed c.note_sync-noted.result
    c.note_sync-noted.ensures.ok c.note_sync-noted.ensures.err c.settle_disk.ensures.noted c.settle_disk.ensures.starved

pub returns-clause-file : goal.returns-clause-file
returns-clause-file c = (
  reads-told c.args.self.now c.note_sync-noted.ensures.sound,
  reads-told c.settle_disk.new.self (disk_sound c.args.self.now c.settle_disk.new.self Sync c.args.failed tt c.note_sync-noted.ensures.sound (notes c)),
)

pub returns-clause-crash : goal.returns-clause-crash
returns-clause-crash c = sync_crash c.args.self.now c.settle_disk.new.self c.args.failed c.note_sync-noted.ensures.sound (notes c)

pub returns-clause-uses : goal.returns-clause-uses
returns-clause-uses c =
    disk_time c.args.self.now c.settle_disk.new.self Sync c.args.failed (notes c)
    (disk_told c.args.self.now c.settle_disk.new.self Sync c.args.failed refl (notes c))
