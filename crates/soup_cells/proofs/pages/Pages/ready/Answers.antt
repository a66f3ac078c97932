use Rattle.std.proofs.Common.{◌≡◌, ◌∙◌, ◌<◌, ◌/◌, ap, false, get_or, length, map, rules, set, subst, sym, true}
use Rattle.std.proofs.Math.Seq.{map-set_same}
use Rattle.std.specs.List.{concat}
use Rattle.soup_cells.specs.Soup.{SoupFields, is_ready}
use Rattle.soup_cells.specs.Pages.{AreCells, is_own, page_cells}
use Rattle.soup_cells.proofs.Flags.{on-ok, own-kept, own-set}
use Rattle.soup_cells.proofs.Indexed.{HasCell, has-cell}
use Rattle.soup_cells.proofs.pages.Pages.ready.Goals as goal
use Rattle.soup_cells.proofs.pages.Pages.ready.Goals.{After-self, After-make_own}
use Rattle.soup_cells.specs.declared.page.TheConstants.{PAGE}

there : (c : After-self) → HasCell page_cells c.self.inside.pages.items c.args.at
there c =
    has-cell page_cells c.self.inside.pages.items c.self.inside.size c.args.at c.self.invariant
    (subst (λ (s : SoupFields). c.args.at < length s.cells) (sym c.self.view_is) c.requires)

-- no page has other cells
same : (c : After-make_own) → map page_cells (set c.self.inside.pages.items (c.args.at / PAGE) c.make_own.new.self) ≡ map page_cells c.self.inside.pages.items
same c =
    map-set_same page_cells c.self.inside.pages.items (c.args.at / PAGE) c.make_own.new.self c.index_mut.result.now
    (c.make_own.ensures.cells ∙ ap page_cells c.index_mut.ensures.value)

pub index_mut-requires : goal.index_mut-requires
index_mut-requires c =
    let h : c.args.at / PAGE < length c.self.inside.pages.items = (there ((goal.at.index_mut-requires c).After-self)).page in
    search rules

pub invariant_of-self : goal.invariant_of-self
invariant_of-self c = subst (AreCells c.self.inside.size) (sym (same ((goal.at.invariant_of-self c).After-make_own))) c.self.invariant

pub returns-clause-cells : goal.returns-clause-cells
returns-clause-cells c = ap concat (same ((goal.at.returns-clause-cells c).After-make_own)) ∙ ap (λ (s : SoupFields). s.cells) c.self.view_is

pub returns-clause-ok : goal.returns-clause-ok
unfolding is_ready
returns-clause-ok c =
    on-ok c.make_own.result
    (own-set is_own c.self.inside.pages.items (c.args.at / PAGE) c.make_own.new.self (there ((goal.at.returns-clause-ok c).After-self)).page)
    c.make_own.ensures.ok

pub returns-clause-kept : goal.returns-clause-kept
unfolding is_ready
returns-clause-kept c p h =
    own-kept is_own c.self.inside.pages.items (c.args.at / PAGE) (p / PAGE) c.index_mut.result.now c.make_own.new.self
    (there ((goal.at.returns-clause-kept c).After-self)).page c.index_mut.ensures.value
    (λ (up : is_own c.index_mut.result.now ≡ true). c.make_own.ensures.kept up)
    (ap (λ (s : SoupFields). get_or s.own (p / PAGE) false) c.self.view_is ∙ h)
