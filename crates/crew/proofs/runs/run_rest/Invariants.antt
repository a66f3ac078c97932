-- The run that its workers share is the book's.
use Rattle.crew.proofs.runs.run_rest.Given as goal

abbrev pub ghosts-run_beside : goal.ghosts-run_beside
ghosts-run_beside g a = record { setup = a.book.setup; quanta = a.book.quanta }
