-- The counter is over the ledger of its blank.
use Rattle.soup_watch.proofs.watching.advance_one.Given as goal

abbrev pub ghosts-counted_advance : goal.ghosts-counted_advance
ghosts-counted_advance a = record { name = a.blank.name; parts = a.blank.parts }
