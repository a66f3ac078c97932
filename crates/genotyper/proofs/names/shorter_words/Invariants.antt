use Rattle.std.proofs.Common.{◌≡◌, ◌+◌, ◌^◌}
use Rattle.genotyper.specs.Names.{shorter_words}
use Rattle.genotyper.proofs.names.shorter_words.Given as goal

abbrev pub invariant-loop : goal.invariant-loop
invariant-loop l = (l.all ≡ shorter_words l.counter) × (l.words ≡ 26 ^ (l.counter + 3))
