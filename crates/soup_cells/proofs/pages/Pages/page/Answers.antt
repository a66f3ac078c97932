use Rattle.std.proofs.Common.{◌∙◌, ◌*◌, ◌+◌, ◌<◌, ℕ, List, ap, length, min, rules, subst, sym}
use Rattle.std.specs.Prelude.{slice_index, slice_range}
use Rattle.soup_cells.specs.Soup.{SoupFields}
use Rattle.soup_cells.specs.Pages.{cells_of, page_cells}
use Rattle.soup_cells.proofs.Indexed.{code-of-page, page-at}
use Rattle.soup_cells.proofs.pages.Pages.page.Goals as goal
use Rattle.soup_cells.proofs.pages.Pages.page.Goals.{After-self}
use Rattle.soup_cells.specs.declared.page.TheConstants.{PAGE}

there : (c : After-self) → PAGE * c.args.number < length (cells_of c.self.inside.pages.items)
there c = subst (λ (s : SoupFields). PAGE * c.args.number < length s.cells) (sym c.self.view_is) c.requires

pub index-requires : goal.index-requires
index-requires c =
    let h : c.args.number < length c.self.inside.pages.items =
    (page-at page_cells c.self.inside.pages.items c.self.inside.size c.args.number c.self.invariant.paged (there c)).0 in
    search rules

pub returns-clause-cells : goal.returns-clause-cells
returns-clause-cells c =
    c.cells.ensures
    ∙ (page-at page_cells c.self.inside.pages.items c.self.inside.size c.args.number c.self.invariant.paged
    (there ((goal.at.returns-clause-cells c).After-self))).1
    c.index.result.now c.index.ensures
    ∙ ap (λ (s : SoupFields). slice_range s.cells (PAGE * c.args.number) (min (PAGE * c.args.number + PAGE) (length s.cells))) c.self.view_is

pub returns-clause-codes : goal.returns-clause-codes
returns-clause-codes c p h =
    let pages = c.self.inside.pages.items in
    let k = c.args.number in
    let page = page-at page_cells pages c.self.inside.size k c.self.invariant.paged (there ((goal.at.returns-clause-codes c).After-self)) in
    let same = page.1 c.index.result.now c.index.ensures in
    let is = c.cells.ensures in
    subst (λ (l : List ℕ). slice_index l p < 32) (sym is)
    (code-of-page page_cells pages c.self.inside.size k p c.index.result.now c.self.invariant c.index.ensures same (subst (λ (l : List ℕ). p < length l) is h))
