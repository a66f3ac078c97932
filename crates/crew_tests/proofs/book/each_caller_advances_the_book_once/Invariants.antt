-- The counter is over the ledger of its blank.
use Rattle.crew_tests.proofs.book.each_caller_advances_the_book_once.Given as goal

abbrev pub ghosts-two_callers : goal.ghosts-two_callers
ghosts-two_callers g a = record { name = a.blank.name; parts = a.blank.parts }
