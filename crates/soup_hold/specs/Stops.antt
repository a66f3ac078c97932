-- Why a run stops before it is done.
use Rattle.std.specs.Prelude.{Err, Ok, Result}
use Rattle.desk_io.specs.Desk.{DeskState, HasDiskFault, HasNoFault, HasTellFault}
use Rattle.soup_checkpoint.specs.declared.faults.HoldFault.{HoldFault}
use Rattle.soup_checkpoint.specs.declared.faults.ShelfFault.{ShelfFault}
use Rattle.soup_checkpoint.specs.declared.faults.ShelfFault.TheVariants as shelf
use Rattle.soup_hold.specs.declared.stop.HoldStop.{HoldStop}
use Rattle.soup_hold.specs.declared.stop.HoldStop.TheVariants as stop

abbrev pub stop_of : ShelfFault → HoldStop
stop_of (shelf.Refused f) = stop.Refused f
stop_of shelf.DiskFault = stop.DiskFault
stop_of shelf.OutOfMemory = stop.OutOfMemory

-- P holds of the fault if the file was refused
abbrev pub IfRefused : HoldStop → (HoldFault → Type 0) → Type 0
IfRefused (stop.Refused f) P = P f
IfRefused stop.DiskFault P = Unit {0}
IfRefused stop.TellFault P = Unit {0}
IfRefused stop.OutOfMemory P = Unit {0}

-- P holds unless a tell failed
abbrev pub UnlessTelling : HoldStop → Type 0 → Type 0
UnlessTelling stop.TellFault P = Unit {0}
UnlessTelling s P = P

-- the stop is a fault of the desk exactly if the desk has that fault
abbrev pub CountsStop : HoldStop → DeskState → Type 0
CountsStop (stop.Refused f) d = HasNoFault d
CountsStop stop.DiskFault d = HasDiskFault d
CountsStop stop.TellFault d = HasTellFault d
CountsStop stop.OutOfMemory d = HasNoFault d

abbrev pub CountsStops : {T : Type 0} → Result T HoldStop → DeskState → Type 0
CountsStops (Ok x) d = HasNoFault d
CountsStops (Err s) d = CountsStop s d
