-- Pages of a version of the soup.
use Rattle.std.specs.Prelude.{List, length, slice_index, ℕ, ◌+◌, ◌<◌, ◌≡◌}

-- the page has the cells from the first on, each with an instruction's code
pub record HasPage (cells : List ℕ) (first : ℕ) (page : List ℕ) : Type 0 where
  pub held : (i : ℕ) → i < length page → slice_index page i ≡ slice_index cells (first + i)
  pub codes : (i : ℕ) → i < length page → slice_index page i < 32
