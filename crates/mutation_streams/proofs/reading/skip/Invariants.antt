-- Each turn reads over the words of one instruction.
use Rattle.std.proofs.Common.{◌*◌, ◌+◌, ◌≡◌}
use Rattle.mutation_streams.proofs.reading.skip.Given as goal

abbrev pub invariant-loop : goal.invariant-loop
invariant-loop l = l.rng ≡ record l.initial.rng { word_pos = l.initial.rng.word_pos + 4 * l.counter }
