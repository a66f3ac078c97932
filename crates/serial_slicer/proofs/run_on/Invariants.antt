-- The counter is over the ledger of its blank.
use Rattle.serial_slicer.proofs.run_on.Given as goal

abbrev pub ghosts-run_quanta : goal.ghosts-run_quanta
ghosts-run_quanta a = record { name = a.blank.name; parts = a.blank.parts }
