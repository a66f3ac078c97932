-- How states are written in a file, one after the other.
use Rattle.std.specs.Prelude.{◌≡◌, ◌+◌, ◌<◌, ◌≤◌, ◌^◌, ℕ, All, List, [], ◌∷◌, ◌++◌, drop, length, take, Option, Some}
use Rattle.std.specs.Prelude.{None}
use Rattle.std.specs.Int.{w32, to_be_bytes}
use Rattle.std.specs.List.{flat_map}
use Rattle.sha2.specs.Sha256.{sha256}
use Rattle.file_journal.specs.Files.{ClosesAfter}
use Rattle.soup_checkpoint.specs.declared.frames.Frames.{Frames}
use Rattle.soup_checkpoint.specs.declared.frames.Span.{Span}

-- a frame: length, state and digest
unfoldable pub spelling : List ℕ → List ℕ
spelling state = to_be_bytes w32 (length state) ++ (state ++ sha256 state)

abbrev pub IsShort : List ℕ → Type 0
IsShort state = length state < 2 ^ 31

-- frames, each after an open gate
unfoldable pub opened : List (List ℕ) → List ℕ
opened states = flat_map (λ s. 1 ∷ spelling s) states

-- frames, each after an open gate, and then a closed gate; what follows it has no meaning
pub record IsClosedAfter (bytes : List ℕ) (states : List (List ℕ)) : Type 0 where
  pub closes : ClosesAfter (opened states) bytes
  pub each : All IsShort states

-- the bytes do not begin with a frame and a next gate
abbrev pub NoFrame : List ℕ → Type 0
NoFrame bytes = (s : List ℕ) (gate : ℕ) (more : List ℕ) → IsShort s → bytes ≡ spelling s ++ gate ∷ more → ⊥

-- frames, each after an open gate, and then an open gate without a frame and a next gate after it
pub record BreaksAfter (bytes : List ℕ) (states : List (List ℕ)) : Type 0 where
  pub rest : List ℕ
  pub text : bytes ≡ opened states ++ 1 ∷ rest
  pub each : All IsShort states
  pub none : NoFrame rest

-- the bytes begin with a frame for a state of n bytes, and a next gate
pub record BeginsWithFrame (bytes : List ℕ) (n : ℕ) : Type 0 where
  pub short : n < 2 ^ 31
  pub inside : n + 36 < length bytes
  pub text : take (n + 36) bytes ≡ spelling (take n (drop 4 bytes))

-- the bytes at a place
abbrev pub bytes_at : List ℕ → Span → List ℕ
bytes_at bytes span = take span.len (drop span.at bytes)

-- the place is that of the last state, and there is none if there is no state
abbrev pub IsLast : List ℕ → List (List ℕ) → Option Span → Type 0
IsLast bytes states None = states ≡ []
IsLast bytes states (Some span) =
    ((earlier : List (List ℕ)) × (states ≡ earlier ++ bytes_at bytes span ∷ [])) × (span.at + span.len ≤ length bytes)

-- the frames after open gates that were read so far, and the gate after them
pub record AreRead (bytes : List ℕ) (f : Frames) (states : List (List ℕ)) : Type 0 where
  pub text : bytes ≡ opened states ++ drop f.gate bytes
  pub place : f.gate ≡ length (opened states)
  pub each : All IsShort states
  pub count : length states ≡ f.count
  pub last : IsLast bytes states f.last
  pub inside : f.gate < length bytes
