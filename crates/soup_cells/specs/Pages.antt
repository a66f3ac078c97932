-- Pages of cells.
use Rattle.std.specs.Prelude.{All, Bool, List, [], Vec, false, length, map, min, true, ℕ, ◌-◌, ◌<◌, ◌≡◌, ◌∷◌}
use Rattle.std.specs.List.{concat}
use Rattle.std.specs.Arc.{arc_value}
use Rattle.std.specs.declared.alloc.Global.{Global}
use Rattle.std.specs.declared.sync.Arc.{Arc}
use Rattle.soup_cells.specs.declared.page.Page.{Page}
use Rattle.soup_cells.specs.declared.page.Page.TheVariants.{Own, Shared}
use Rattle.soup_cells.specs.declared.page.TheConstants.{PAGE}

abbrev pub SharedPage : Type 0
SharedPage = Arc (Vec ℕ Global) Global

abbrev pub shared_cells : SharedPage → List ℕ
shared_cells page = (arc_value page).items

abbrev pub page_cells : Page → List ℕ
page_cells (Own cells) = cells.items
page_cells (Shared cells) = shared_cells cells

abbrev pub is_own : Page → Bool
is_own (Own cells) = true
is_own (Shared cells) = false

-- the cells of the pages, one page after another
abbrev pub cells_of : List Page → List ℕ
cells_of pages = concat (map page_cells pages)

-- the pages of n cells: each has PAGE, but the last may have fewer
abbrev pub ArePages : ℕ → List (List ℕ) → Type 0
ArePages n [] = n ≡ 0
ArePages n (page ∷ pages) = (0 < n) × (length page ≡ min PAGE n) × ArePages (n - PAGE) pages

-- the pages of n cells, each with an instruction's code
pub record AreCells (n : ℕ) (pages : List (List ℕ)) : Type 0 where
  pub paged : ArePages n pages
  pub codes : All (λ v. v < 32) (concat pages)
