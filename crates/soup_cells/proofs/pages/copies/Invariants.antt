use Rattle.std.proofs.Common.{◌≡◌, ◌++◌, drop, map}
use Rattle.soup_cells.specs.Pages.{page_cells}
use Rattle.soup_cells.proofs.pages.copies.Given as goal

abbrev pub invariant-loop-page : goal.invariant-loop-page
invariant-loop-page l = map page_cells l.copies.items ++ map page_cells (drop l.page-index l.pages.items) ≡ map page_cells l.pages.items
