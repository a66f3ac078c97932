use Rattle.std.proofs.Common.{◌≡◌, ◌++◌, ◌<◌, ◌^◌}
use Rattle.genotyper.specs.Names.{word}
use Rattle.genotyper.proofs.names.push_word.Given as goal

abbrev pub invariant-loop-place : goal.invariant-loop-place
invariant-loop-place l = (l.items.items ++ word l.place l.left ≡ l.fn.items.items ++ word l.fn.letters l.fn.rank) × (l.left < 26 ^ l.place)
