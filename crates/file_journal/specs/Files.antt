-- What the bytes of a file of records are: a header, records after open gates, and a closed gate.
use Rattle.std.specs.Prelude.{◌≡◌, ◌≢◌, ◌⊎◌, ℕ, ◌<◌, ◌≤◌, List, ◌∷◌, ◌++◌, drop, length, slice_index, take}
use Rattle.file_journal.specs.declared.header.Header.{Header}

-- a title does not begin with 0
abbrev pub IsTitle : List ℕ → Type 0
IsTitle title = 0 < slice_index title 0

-- a header that is not finished: the first byte of the title is written last
pub record IsBegun (title image : List ℕ) : Type 0 where
  pub first : slice_index image 0 ≢ slice_index title 0
  pub others : take 11 (drop 1 image) ≡ drop 1 title

-- no file with the title was made yet
abbrev pub IsFresh : List ℕ → List ℕ → Type 0
IsFresh title image = (length image < 45) ⊎ ((slice_index image 0 ≡ 0) ⊎ IsBegun title image)

-- the file begins with the title, and goes on to the gate of record 0
pub record IsTitled (title image : List ℕ) : Type 0 where
  pub long : 45 ≤ length image
  pub title_is : take 12 image ≡ title

abbrev pub digest_in : List ℕ → List ℕ
digest_in image = take 32 (drop 12 image)

-- the bytes from the gate of record 0 on
abbrev pub behind_header : List ℕ → List ℕ
behind_header image = drop 44 image

-- a header's bytes, up to the gate of record 0
abbrev pub header_of : Header → List ℕ
header_of h = h.title ++ h.digest

-- these bytes, and then a closed gate; what follows it has no meaning
pub record ClosesAfter (front image : List ℕ) : Type 0 where
  pub gate : ℕ
  pub rest : List ℕ
  pub text : image ≡ front ++ gate ∷ rest
  pub closed : gate ≢ 1

-- the gate at the place is closed
abbrev pub IsClosedAt : ℕ → List ℕ → Type 0
IsClosedAt at image = ClosesAfter (take at image) image

-- the bytes before the gate, the gate opened, and the record
abbrev pub with_record : ℕ → List ℕ → List ℕ → List ℕ
with_record at piece file = take at file ++ 1 ∷ piece

-- up to a closed gate the file is what it was, without the new record or with it
abbrev pub IsBeforeOrAfter : ℕ → List ℕ → List ℕ → List ℕ → Type 0
IsBeforeOrAfter at piece file image =
    ClosesAfter (take at file) image ⊎ ClosesAfter (with_record at piece file) image

-- at the place are a closed gate, the record and another closed gate
pub record IsStaged (at : ℕ) (piece now : List ℕ) : Type 0 where
  pub gate : ℕ
  pub rest : List ℕ
  pub text : now ≡ take at now ++ gate ∷ (piece ++ 0 ∷ rest)
  pub closed : gate ≢ 1

-- the record is staged in the file now, which is the old file up to the gate
abbrev pub Stages : ℕ → List ℕ → List ℕ → List ℕ → Type 0
Stages at piece file now = (take at now ≡ take at file) × IsStaged at piece now
