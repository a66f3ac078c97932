use Rattle.std.proofs.Common.{◌∙◌, ◌<◌, ◌/◌, ap, get_or, length, rules, subst, sym, ℕ}
use Rattle.soup_cells.specs.Soup.{SoupFields}
use Rattle.soup_cells.specs.Pages.{page_cells}
use Rattle.soup_cells.proofs.Indexed.{HasCell, has-cell}
use Rattle.soup_cells.proofs.pages.Pages.get.Goals as goal
use Rattle.soup_cells.proofs.pages.Pages.get.Goals.{After-self}
use Rattle.soup_cells.specs.declared.page.TheConstants.{PAGE}

there : (c : After-self) → HasCell page_cells c.self.inside.pages.items c.args.at
there c =
    has-cell page_cells c.self.inside.pages.items c.self.inside.size c.args.at c.self.invariant
    (subst (λ (s : SoupFields). c.args.at < length s.cells) (sym c.self.view_is) c.requires)

pub index-requires : goal.index-requires
index-requires c =
    let h : c.args.at / PAGE < length c.self.inside.pages.items = (there c).page in
    search rules

pub get-requires : goal.get-requires
get-requires c = (there ((goal.at.get-requires c).After-self)).place c.index.result.now c.index.ensures

pub returns-clause-value : goal.returns-clause-value
returns-clause-value c =
    c.get.ensures
    ∙ (there ((goal.at.returns-clause-value c).After-self)).value c.index.result.now c.index.ensures
    ∙ ap (λ (s : SoupFields). get_or s.cells c.args.at 0) c.self.view_is

pub returns-clause-code : goal.returns-clause-code
returns-clause-code c =
    let h = there ((goal.at.returns-clause-code c).After-self) in
    subst (λ (v : ℕ). v < 32) (sym (c.get.ensures ∙ h.value c.index.result.now c.index.ensures)) h.code
