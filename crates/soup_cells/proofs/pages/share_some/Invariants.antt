use Rattle.std.proofs.Common.{◌≡◌, map, vec_len}
use Rattle.soup_cells.specs.Pages.{page_cells}
use Rattle.soup_cells.proofs.pages.share_some.Given as goal

abbrev pub invariant-loop-number : goal.invariant-loop-number
invariant-loop-number l = (map page_cells l.pages.items ≡ map page_cells l.fn.pages.items) × (vec_len l.pages ≡ vec_len l.fn.pages)
