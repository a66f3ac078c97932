-- What contracts see of a slicer.
use Rattle.std.specs.Prelude.{List, ℕ}

-- the birth numbers from the front on, each once, and how many more creatures can enter without memory
pub record SlicerFields : Type 0 where
  pub ids : List ℕ
  pub spare : ℕ
