-- The counter is over the ledger of its blank.
use Rattle.book_tests.proofs.findings.are_copied.Given as goal

abbrev pub ghosts-finding_of : goal.ghosts-finding_of
ghosts-finding_of a = record { name = a.blank.name; parts = a.blank.parts }
