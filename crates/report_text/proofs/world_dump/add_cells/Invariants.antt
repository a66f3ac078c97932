use Rattle.std.proofs.Common.{◌≡◌, ◌++◌, take}
use Rattle.std.specs.List.{flat_map}
use Rattle.std.specs.Prelude.{string_bytes}
use Rattle.report_text.specs.Dump.{cell_text}
use Rattle.report_text.proofs.world_dump.add_cells.Given as goal

abbrev pub invariant-loop-cell : goal.invariant-loop-cell
invariant-loop-cell l = string_bytes l.line ≡ string_bytes l.fn.line ++ flat_map cell_text (take l.cell-index l.cells)
