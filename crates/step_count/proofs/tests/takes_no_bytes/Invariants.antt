-- The counter is over the ledger of its blank.
use Rattle.step_count.proofs.tests.takes_no_bytes.Given as goal

abbrev pub ghosts-bytes_taken : goal.ghosts-bytes_taken
ghosts-bytes_taken g a = record { name = a.blank.name; parts = a.blank.parts }
