-- The counter is over the ledger of its blank.
use Rattle.crew.proofs.alone.work_some.Given as goal

abbrev pub ghosts-counted_work : goal.ghosts-counted_work
ghosts-counted_work g a = record { name = a.blank.name; parts = a.blank.parts }
