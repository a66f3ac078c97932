-- How far a file is from having a header.
use Rattle.std.specs.Prelude.{◌≡◌, ◌≢◌, ◌⊎◌, ℕ, ◌<◌, ◌≤◌, List, [], ◌∷◌, ◌++◌, drop, length, slice_index}
use Rattle.file_journal.specs.Files.{ClosesAfter, IsBegun, IsFresh, header_of}
use Rattle.file_journal.specs.declared.creating.Stage.{Stage}
use Rattle.file_journal.specs.declared.creating.Stage.TheVariants as stage
use Rattle.file_journal.specs.declared.header.Header.{Header}

-- it begins with 0
abbrev pub IsBlank : List ℕ → Type 0
IsBlank file = (slice_index file 0 ≡ 0) × (0 < length file)

abbrev pub IsAtStage : List ℕ → Stage → List ℕ → Type 0
IsAtStage title stage.Short file = length file < 45
IsAtStage title stage.Blank file = IsBlank file
IsAtStage title stage.Begun file = IsBegun title file × (45 ≤ length file)

-- all of its header is written but the first byte
pub record LacksFirstByte (h : Header) (file : List ℕ) : Type 0 where
  pub first : ℕ
  pub rest : List ℕ
  pub text : file ≡ first ∷ (drop 1 h.title ++ (h.digest ++ 0 ∷ rest))
  pub not_whole : first ≢ slice_index h.title 0

-- a header's bytes, with the closed gate of record 0
abbrev pub header_bytes : Header → List ℕ
header_bytes h = h.title ++ (h.digest ++ 0 ∷ [])

-- the header is whole, and no record follows
abbrev pub IsMade : Header → List ℕ → Type 0
IsMade h image = ClosesAfter (header_of h) image

-- no header yet, or a whole one without a record
abbrev pub IsMaking : Header → List ℕ → Type 0
IsMaking h image = IsFresh h.title image ⊎ IsMade h image
