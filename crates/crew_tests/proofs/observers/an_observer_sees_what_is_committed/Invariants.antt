-- The counter is over the ledger of its blank.
use Rattle.crew_tests.proofs.observers.an_observer_sees_what_is_committed.Given as goal

abbrev pub ghosts-watched : goal.ghosts-watched
ghosts-watched g a = record { name = a.blank.name; parts = a.blank.parts }
