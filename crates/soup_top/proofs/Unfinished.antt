-- What is so where something stops before it is done.
use Rattle.soup_top.specs.declared.status.Status.{Status}
use Rattle.soup_top.specs.declared.status.Status.TheVariants as status
use Rattle.soup_top.specs.declared.stop.RunStop.{RunStop}
use Rattle.soup_top.specs.declared.stop.RunStop.TheVariants as stop
use Rattle.soup_top.specs.Answers.{OnStopped}
use Rattle.soup_top.specs.Statuses.{status_of}
use Rattle.soup_top.specs.Stops.{UnlessTelling}

-- what is so whatever stops it is so unless a tell did
pub unless_telling : (s : RunStop) (P : Type 0) → P → UnlessTelling s P
unless_telling stop.TellFault P p = tt
unless_telling s P p = p

pub still_unless : (s : RunStop) (P Q : Type 0) → (P → Q) → UnlessTelling s P → UnlessTelling s Q
still_unless stop.TellFault P Q step p = tt
still_unless s P Q step p = step p

pub by_status : (s : RunStop) (P : Type 0) → UnlessTelling s P → OnStopped (status_of s) P
by_status stop.TellFault P p = tt
by_status s P p = p

-- what is so of every answer is so of one that stops
pub where_stopped : (s : Status) (P : Type 0) → P → OnStopped s P
where_stopped status.Done P p = tt
where_stopped status.TellFault P p = tt
where_stopped s P p = p
