-- What was told of a text: by a moment, and at the end.
use Rattle.std.specs.Prelude.{◌≡◌, ◌⊎◌, ℕ, ◌-◌, ◌<◌, ◌≤◌, List, ◌++◌, length, take, Option, Some}
use Rattle.desk_io.specs.Desk.{Appended}

-- the text told by now is the text told before, and then this piece
abbrev pub IsToldAfter : Option (List ℕ) → List ℕ → List ℕ → Type 0
IsToldAfter before piece text = (was : List ℕ) × (before ≡ Some was) × (text ≡ was ++ piece)

-- the text begins with this piece
abbrev pub BeginsWithText : List ℕ → List ℕ → Type 0
BeginsWithText piece text = (rest : List ℕ) × (text ≡ piece ++ rest)

-- the text told by now is the text told before, and then the first bytes of the whole, or all of them
abbrev pub IsToldPart : Option (List ℕ) → List ℕ → List ℕ → Type 0
IsToldPart before whole text = (piece : List ℕ) × IsToldAfter before piece text × BeginsWithText piece whole

-- the text grew by the first bytes of the piece, but not by all of them
abbrev pub AppendedLess : Option (List ℕ) → List ℕ → Option (List ℕ) → Type 0
AppendedLess before piece now = (k : ℕ) × (k < length piece) × Appended before (take k piece) now

-- So many items come into a file one after another, and the lines of each are told once the file has it. At a moment of
-- that, the file has the first k items. The lines of the first k - 1 were told, and none of an item after the first k.
-- What was told begins the whole text, which may go on when all items are in the file.
pub record LinesFollow (HasFirst : ℕ → List ℕ → Type 0) (items : ℕ) (lines_of_first : ℕ → List ℕ) (whole : List ℕ)
    (before : Option (List ℕ)) (image text : List ℕ) : Type 0 where
  pub k : ℕ
  pub inside : k ≤ items
  pub has : HasFirst k image
  pub piece : List ℕ
  pub told : IsToldAfter before piece text
  pub kept_up : BeginsWithText (lines_of_first (k - 1)) piece
  pub covered : (k ≡ items) ⊎ (length piece ≤ length (lines_of_first k))
  pub part : BeginsWithText piece whole
