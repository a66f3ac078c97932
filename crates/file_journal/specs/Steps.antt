-- What several calls of a desk leave, where the disk tells its content.
use Rattle.std.specs.Prelude.{◌≡◌, ℕ, ◌<◌, ◌≤◌, ◌^◌, List, length, Option, Some, None, IfSome, IsSomeAnd, Result, Ok}
use Rattle.std.specs.Prelude.{Err, vec_len}
use Rattle.std.specs.Global.{Vec}
use Rattle.desk_io.specs.Desk.{DeskState, HasNoFault, HasDiskFault, IsSettled, NoMore, Written}
use Rattle.file_journal.specs.declared.faults.FileFault.{FileFault}
use Rattle.file_journal.specs.declared.faults.FileFault.TheVariants as fault

-- a disk fault means that the disk failed, and any other fault that it did not
abbrev pub CountsFault : FileFault → DeskState → Type 0
CountsFault fault.DiskFault d = HasDiskFault d
CountsFault fault.OutOfMemory d = HasNoFault d

abbrev pub CountsFaults : {T : Type 0} → Result T FileFault → DeskState → Type 0
CountsFaults (Ok x) d = HasNoFault d
CountsFaults (Err e) d = CountsFault e d

-- P holds of the desk's file and the image, where the desk tells its content
abbrev pub IfTold : DeskState → (List ℕ → List ℕ → Type 0) → List ℕ → Type 0
IfTold d P image = IfSome d.reads (λ file. P file image)

-- what was read of a file: all of it, or nothing if it is too short for a header
abbrev pub IsImage : Option (Vec ℕ) → List ℕ → Type 0
IsImage None file = length file < 45
IsImage (Some v) file = (v.items ≡ file) × (45 ≤ length file)

-- this was read of the desk's file, which is at most as long as a file may be
pub record IsReadOf (o : Option (Vec ℕ)) (d : DeskState) : Type 0 where
  pub image : IfSome d.reads (IsImage o)
  pub long : IfSome o (λ v. (45 ≤ vec_len v) × (vec_len v ≤ 2 ^ 62))

-- The piece is written and durable.
pub record IsWritten (old : DeskState) (at : ℕ) (piece : List ℕ) (new : DeskState) : Type 0 where
  pub settled : IsSettled new
  pub written : Written old at piece new

-- The file was written and is durable. If the desk told its file before, it does so now, and P holds of the two files.
pub record Becomes (old new : DeskState) (P : List ℕ → List ℕ → Type 0) : Type 0 where
  pub settled : IsSettled new
  pub has : IfSome old.reads (λ file. IsSomeAnd new.reads (P file))
  pub untold : old.reads ≡ None → new.reads ≡ None

-- The file was read and not written: a read gives the same, and a crash may leave nothing new.
pub record IsUnwritten (old new : DeskState) : Type 0 where
  pub reads : new.reads ≡ old.reads
  pub crash : NoMore old.may_leave new.may_leave
