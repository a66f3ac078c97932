use Rattle.std.proofs.Common.{◌≡◌, ◌++◌}
use Rattle.std.specs.List.{flat_map, range_with_len}
use Rattle.report_text.specs.Report.{line_of}
use Rattle.report_text.proofs.world_report.add_genotypes.Given as goal

abbrev pub invariant-loop-number : goal.invariant-loop-number
invariant-loop-number l = l.text.items ≡ l.fn.text.items ++ flat_map (line_of l.world.world) (range_with_len 0 l.number)
