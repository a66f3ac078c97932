use Rattle.std.proofs.Common.{◌≡◌, ◌∙◌, ◌<◌, ◌/◌, ◌%◌, All, Bool, List, ap, false, get_or, length, length-set, map, rules, set, subst, sym, true, ℕ}
use Rattle.std.proofs.Math.Seq.{map-set_same}
use Rattle.std.proofs.lemmas.List.{get_or-map}
use Rattle.std.proofs.lemmas.List.Elements.{All-set}
use Rattle.soup_cells.specs.Soup.{SoupFields, is_ready}
use Rattle.soup_cells.specs.declared.page.Page.{Page}
use Rattle.soup_cells.specs.Pages.{cells_of, is_own, page_cells}
use Rattle.soup_cells.proofs.Indexed.{HasCell, cell-set, has-cell, paged-set}
use Rattle.soup_cells.proofs.pages.Pages.set.Goals as goal
use Rattle.soup_cells.proofs.pages.Pages.set.Goals.{After-self, After-set}
use Rattle.soup_cells.specs.declared.page.TheConstants.{PAGE}

within : (c : After-self) → c.args.at < length (cells_of c.self.inside.pages.items)
within c = subst (λ (s : SoupFields). c.args.at < length s.cells) (sym c.self.view_is) c.requires.within

there : (c : After-self) → HasCell page_cells c.self.inside.pages.items c.args.at
there c = has-cell page_cells c.self.inside.pages.items c.self.inside.size c.args.at c.self.invariant (within c)

own : (pages : List Page) (k : ℕ) (page : Page) → k < length pages → page ≡ get_or pages k page → get_or (map is_own pages) k false ≡ true → is_own page ≡ true
own pages k page l e is = ap is_own e ∙ sym (get_or-map is_own pages k page false l) ∙ is

-- the cells, with the cell set
written : (c : After-set) → c.args.at < length (cells_of c.self.inside.pages.items)
    → cells_of (set c.self.inside.pages.items (c.args.at / PAGE) c.set.new.self) ≡ set (cells_of c.self.inside.pages.items) c.args.at c.args.value
written c l =
    cell-set page_cells c.self.inside.pages.items c.self.inside.size c.args.at c.args.value c.index_mut.result.now c.set.new.self c.self.invariant
    l c.index_mut.ensures.value c.set.ensures.cells

pub index_mut-requires : goal.index_mut-requires
index_mut-requires c =
    let h : c.args.at / PAGE < length c.self.inside.pages.items = (there ((goal.at.index_mut-requires c).After-self)).page in
    search rules

pub set-requires-clause-within : goal.set-requires-clause-within
set-requires-clause-within c = (there ((goal.at.set-requires-clause-within c).After-self)).place c.index_mut.result.now c.index_mut.ensures.value

pub invariant_of-self : goal.invariant_of-self
invariant_of-self c =
    let long : length (page_cells c.set.new.self) ≡ length (page_cells c.index_mut.result.now) =
    ap length c.set.ensures.cells ∙ length-set (page_cells c.index_mut.result.now) (c.args.at % PAGE) c.args.value in
    record {
      paged = paged-set page_cells c.self.inside.pages.items c.self.inside.size (c.args.at / PAGE) c.index_mut.result.now c.set.new.self
          c.self.invariant.paged (there ((goal.at.invariant_of-self c).After-self)).page c.index_mut.ensures.value long;
      codes = subst (All (λ v. v < 32)) (sym (written ((goal.at.invariant_of-self c).After-set) (within ((goal.at.invariant_of-self c).After-self))))
          (All-set (λ v. v < 32) (cells_of c.self.inside.pages.items) c.args.at c.args.value c.requires.code c.self.invariant.codes);
    }

pub returns-clause-cells : goal.returns-clause-cells
returns-clause-cells c =
    written ((goal.at.returns-clause-cells c).After-set) (within ((goal.at.returns-clause-cells c).After-self))
    ∙ ap (λ (s : SoupFields). set s.cells c.args.at c.args.value) c.self.view_is

pub set-requires-clause-own : goal.set-requires-clause-own
unfolding is_ready
set-requires-clause-own c =
    own c.self.inside.pages.items (c.args.at / PAGE) c.index_mut.result.now (there ((goal.at.set-requires-clause-own c).After-self)).page
    c.index_mut.ensures.value
    (ap (λ (s : SoupFields). get_or s.own (c.args.at / PAGE) false) c.self.view_is ∙ c.requires.ready)

pub returns-clause-ready : goal.returns-clause-ready
unfolding is_ready
returns-clause-ready c p =
    let is : is_own c.index_mut.result.now ≡ true =
    own c.self.inside.pages.items (c.args.at / PAGE) c.index_mut.result.now (there ((goal.at.returns-clause-ready c).After-self)).page
    c.index_mut.ensures.value
    (ap (λ (s : SoupFields). get_or s.own (c.args.at / PAGE) false) c.self.view_is ∙ c.requires.ready) in
    ap (λ (flags : List Bool). get_or flags (p / PAGE) false)
    (map-set_same is_own c.self.inside.pages.items (c.args.at / PAGE) c.set.new.self c.index_mut.result.now
    (c.set.ensures.own ∙ sym is ∙ ap is_own c.index_mut.ensures.value))
    ∙ ap (λ (s : SoupFields). get_or s.own (p / PAGE) false) c.self.view_is
