use Rattle.std.proofs.Common.{map}
use Rattle.soup_cells.specs.Pages.{page_cells}
use Rattle.soup_cells.proofs.Cutting.{AreCut}
use Rattle.soup_cells.proofs.pages.Pages.cut.Given as goal

abbrev pub invariant-loop-number : goal.invariant-loop-number
invariant-loop-number l = AreCut l.cells l.number (map page_cells l.pages.items)
