-- What an opened file was and is.
use Rattle.std.specs.Prelude.{◌≡◌, ◌⊎◌, ℕ, ◌≤◌, ◌^◌, List, length, IfSome}
use Rattle.desk_io.specs.Desk.{DeskState, IsSettled}
use Rattle.file_journal.specs.Creating.{IsMade, IsMaking}
use Rattle.file_journal.specs.Files.{IsFresh}
use Rattle.file_journal.specs.Steps.{Becomes, IsUnwritten}
use Rattle.file_journal.specs.declared.header.Header.{Header}

-- The file was fresh, and has a header and no records now.
pub record IsNew (h : Header) (old new : DeskState) : Type 0 where
  pub fresh : IfSome old.reads (IsFresh h.title)
  pub made : Becomes old new (λ file. IsMade h)

-- The file is not fresh, and was read and not written.
pub record IsFound (title image : List ℕ) (old new : DeskState) : Type 0 where
  pub settled : IsSettled new
  pub unwritten : IsUnwritten old new
  pub read : IfSome old.reads (λ file. image ≡ file)
  pub not_fresh : IsFresh title image → ⊥
  pub long : 45 ≤ length image
  pub most : length image ≤ 2 ^ 62

-- the image is one that a crash might have left at the start, or one of a fresh file that gets its header
abbrev pub IsLeftOrMaking : Header → (List ℕ → Type 0) → List ℕ → List ℕ → Type 0
IsLeftOrMaking h may_leave file image = may_leave image ⊎ (IsFresh h.title file × IsMaking h image)
