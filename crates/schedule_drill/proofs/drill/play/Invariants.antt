use Rattle.schedule_drill.proofs.drill.play.Given as goal

abbrev pub ghosts-counted_play : goal.ghosts-counted_play
ghosts-counted_play a = record { name = a.blank.name; parts = a.blank.parts }
