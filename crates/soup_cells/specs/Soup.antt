-- What contracts see of a soup.
use Rattle.std.specs.Prelude.{Bool, List, false, slice_index_or, ℕ, ◌/◌}
use Rattle.soup_cells.specs.declared.page.TheConstants.{PAGE}

-- the cells, and for each page of PAGE of them whether it is the soup's own
pub record SoupFields : Type 0 where
  pub cells : List ℕ
  pub own : List Bool

-- the cell is ready: it can be set without memory
unfoldable pub is_ready : SoupFields → ℕ → Bool
is_ready soup at = slice_index_or soup.own (at / PAGE) false
