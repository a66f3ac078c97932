-- What is so whatever stopped a run is so unless it was a tell.
use Rattle.soup_hold.specs.declared.stop.HoldStop.{HoldStop}
use Rattle.soup_hold.specs.declared.stop.HoldStop.TheVariants as stop
use Rattle.soup_hold.specs.Stops.{UnlessTelling}

pub unless_telling : (s : HoldStop) (P : Type 0) → P → UnlessTelling s P
unless_telling (stop.Refused f) P p = p
unless_telling stop.DiskFault P p = p
unless_telling stop.TellFault P p = tt
unless_telling stop.OutOfMemory P p = p
