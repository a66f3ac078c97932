-- The pages of a soup, beside the row of its cells.
use Rattle.std.specs.Prelude.{Bool, IfSome, List, None, Option, Some, [], false, length, replicate, true, ℕ, ◌+◌, ◌/◌}
use Rattle.std.specs.Prelude.{◌≡◌}
use Rattle.std.specs.Arc.{arc_value}
use Rattle.soup_cells.specs.declared.soup.Paging.{Paging}
use Rattle.soup_cells.specs.declared.soup.Paging.TheVariants.{Own, Shared, Uncut}
use Rattle.soup_cells.specs.Soup.{SoupFields}
use Rattle.soup_cells.specs.declared.page.TheConstants.{PAGE}

-- the cells of the pages, if the cells are cut into pages
abbrev pub cells_in : Paging → Option (List ℕ)
cells_in Uncut = None
cells_in (Own pages) = Some pages.cells
cells_in (Shared pages) = Some (arc_value pages).cells

-- the pages have the cells of the row
abbrev pub AreIn : List ℕ → Paging → Type 0
AreIn row paging = IfSome (cells_in paging) (λ cells. cells ≡ row)

-- for each page of the row, whether it is the soup's own: all are if they are not cut, and none if they are shared
abbrev pub own_of : List ℕ → Paging → List Bool
own_of row Uncut = replicate ((length row + 16383) / PAGE) true
own_of row (Own pages) = pages.own
own_of row (Shared pages) = []

-- the soup of a row and its pages
abbrev pub soup_of : List ℕ → Paging → SoupFields
soup_of row paging = record { cells = row; own = own_of row paging }

abbrev pub is_cut : Paging → Bool
is_cut Uncut = false
is_cut (Own pages) = true
is_cut (Shared pages) = true

abbrev pub has_own : Paging → Bool
has_own Uncut = true
has_own (Own pages) = true
has_own (Shared pages) = false
