use Rattle.std.proofs.Common.{◌∙◌, ap, length, map, sym}
use Rattle.soup_cells.specs.Soup.{SoupFields}
use Rattle.soup_cells.specs.Pages.{page_cells}
use Rattle.soup_cells.proofs.Paged.{length-pages}
use Rattle.soup_cells.proofs.pages.Pages.size.Goals as goal

pub returns : goal.returns
returns c = sym (length-pages c.self.inside.size (map page_cells c.self.inside.pages.items) c.self.invariant.paged)
    ∙ ap (λ (s : SoupFields). length s.cells) c.self.view_is
