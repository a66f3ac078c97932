-- The counter is over the ledger of its blank.
use Rattle.book_tests.proofs.commits.the_second_is_stale_where_the_first_wrote.Given as goal

abbrev pub ghosts-two_quanta : goal.ghosts-two_quanta
ghosts-two_quanta g a = record { name = a.blank.name; parts = a.blank.parts }
