-- The counter is over the ledger of its blank.
use Rattle.book_tests.proofs.commits.a_finding_that_is_out_of_place_changes_nothing.Given as goal

abbrev pub ghosts-out_of_place : goal.ghosts-out_of_place
ghosts-out_of_place g a = record { name = a.blank.name; parts = a.blank.parts }
