-- What is due below the instruction is listed.
use Rattle.std.proofs.Common.{◌≡◌}
use Rattle.std.specs.List.{range_with_len}
use Rattle.std.specs.Prelude.{filter, map}
use Rattle.mutation_streams.specs.Draws.{draws_of}
use Rattle.mutation_streams.specs.Entries.{chance_of, is_any}
use Rattle.mutation_streams.proofs.entry.TapeEntry.of.Given as goal

abbrev pub invariant-loop-instruction : goal.invariant-loop-instruction
invariant-loop-instruction l =
    (l.draws ≡ draws_of l.settings l.q) × (l.chances.items ≡ filter is_any (map (chance_of (draws_of l.settings l.q)) (range_with_len 0 l.instruction)))
