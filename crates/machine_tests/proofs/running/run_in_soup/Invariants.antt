-- The counter is over the ledger of its blank.
use Rattle.machine_tests.proofs.running.run_in_soup.Given as goal

abbrev pub ghosts-run_over : goal.ghosts-run_over
ghosts-run_over g a = record { name = a.blank.name; parts = a.blank.parts }
