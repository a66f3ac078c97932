-- The counter is over the ledger of its blank.
use Rattle.book_tests.proofs.commits.findings_in_any_order_end_in_the_serial_world.Given as goal

abbrev pub ghosts-backwards : goal.ghosts-backwards
ghosts-backwards g a = record { name = a.blank.name; parts = a.blank.parts }
