-- What was told of a text, where more is told, or where the file has something else.
use Rattle.std.proofs.Common.{◌∙◌, ap, ℕ, List, ◌++◌, append_assoc, Option}
use Rattle.desk_io.specs.Told.{BeginsWithText, LinesFollow}

-- what begins a text begins one that goes on after it
pub begins_longer : (piece text more : List ℕ) → BeginsWithText piece text → BeginsWithText piece (text ++ more)
begins_longer piece text more begins =
    (begins.0 ++ more, ap (λ (l : List ℕ). l ++ more) begins.1 ∙ append_assoc piece begins.0 more)

module _ {HasFirst : ℕ → List ℕ → Type 0} {items : ℕ} {lines_of_first : ℕ → List ℕ} {whole : List ℕ} {before : Option (List ℕ)}
    {image text : List ℕ} (m : LinesFollow HasFirst items lines_of_first whole before image text) where
  -- the whole text may be one that goes on
  pub follow_longer : (more : List ℕ) → LinesFollow HasFirst items lines_of_first (whole ++ more) before image text
  follow_longer more = record {
    k = m.k;
    inside = m.inside;
    has = m.has;
    piece = m.piece;
    told = m.told;
    kept_up = m.kept_up;
    covered = m.covered;
    part = begins_longer m.piece whole more m.part;
  }

  -- the file may have what the first items are part of
  pub follow_by : (Other : ℕ → List ℕ → Type 0) → ((k : ℕ) → HasFirst k image → Other k image)
      → LinesFollow Other items lines_of_first whole before image text
  follow_by Other has = record {
    k = m.k;
    inside = m.inside;
    has = has m.k m.has;
    piece = m.piece;
    told = m.told;
    kept_up = m.kept_up;
    covered = m.covered;
    part = m.part;
  }
