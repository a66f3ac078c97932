-- The counter is over the ledger of its blank.
use Rattle.serial_slicer.proofs.in_place.InPlace.next.Given as goal

abbrev pub ghosts-counted_next : goal.ghosts-counted_next
ghosts-counted_next a = record { name = a.blank.name; parts = a.blank.parts }
