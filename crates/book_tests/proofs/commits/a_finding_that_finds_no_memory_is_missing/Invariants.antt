-- The counter is over the ledger of its blank.
use Rattle.book_tests.proofs.commits.a_finding_that_finds_no_memory_is_missing.Given as goal

abbrev pub ghosts-fresh_or_missing : goal.ghosts-fresh_or_missing
ghosts-fresh_or_missing g a = record { name = a.blank.name; parts = a.blank.parts }
