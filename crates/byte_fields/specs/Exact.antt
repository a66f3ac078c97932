-- A field is read exactly where it is written.
use Rattle.std.specs.Prelude.{List, Option, Some, get_or, ℕ, ◌++◌, ◌<◌, ◌≡◌}

abbrev pub IsBytes : List ℕ → Type 0
IsBytes bytes = (i : ℕ) → get_or bytes i 0 < 256

-- The field is read from the front of bytes where they begin with the text of a value that has P, and nowhere else.
pub record Reads {X : Type 0} (P : X → Type 0) (text : X → List ℕ) (field : List ℕ → Option (X × List ℕ)) : Type 0 where
  pub takes : (bytes : List ℕ) (x : X × List ℕ) → IsBytes bytes → field bytes ≡ Some x
      → (bytes ≡ text x.0 ++ x.1) × P x.0
  pub again : (x : X) (rest : List ℕ) → P x → field (text x ++ rest) ≡ Some (x, rest)
