-- The entries of the quanta so far are written.
use Rattle.std.proofs.Common.{◌≡◌, ◌+◌}
use Rattle.std.specs.List.{range_with_len}
use Rattle.std.specs.Prelude.{map}
use Rattle.mutation_streams.specs.Draws.{draws_of}
use Rattle.mutation_streams.specs.Entries.{entry_of}
use Rattle.mutation_streams.proofs.block.TapeBlock.write.Given as goal

abbrev pub invariant-loop-k : goal.invariant-loop-k
invariant-loop-k l = l.entries.items ≡ map (λ j. entry_of (draws_of l.settings (l.first + j)) l.reach) (range_with_len 0 l.k)
