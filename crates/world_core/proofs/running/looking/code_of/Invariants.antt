use Rattle.std.proofs.Common.{◌≡◌, ◌≤◌, ◌+◌, vec_capacity, vec_len}
use Rattle.std.specs.Prelude.{slice_range}
use Rattle.world_core.proofs.running.looking.code_of.Given as goal

abbrev pub invariant-loop-at : goal.invariant-loop-at
invariant-loop-at l =
    (l.items.items ≡ slice_range l.soup.cells l.fn.block.at l.at) × (l.fn.block.size ≤ vec_capacity l.items) × (vec_len l.items + l.fn.block.at ≡ l.at)
