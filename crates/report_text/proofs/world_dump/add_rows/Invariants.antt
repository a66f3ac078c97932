use Rattle.std.proofs.Common.{◌≡◌, ◌++◌}
use Rattle.std.specs.List.{flat_map, range_with_len}
use Rattle.report_text.specs.Dump.{row_of}
use Rattle.report_text.proofs.world_dump.add_rows.Given as goal

abbrev pub invariant-loop-number : goal.invariant-loop-number
invariant-loop-number l = l.text.items ≡ l.fn.text.items ++ flat_map (row_of l.world.world.soup) (range_with_len 0 l.number)
