-- What a search finds: its template is the longest run of nops, and it finds the candidate of the least distance.
use Rattle.std.specs.Prelude.{Bool, List, false, get_or, length, true, ℕ, ◌%◌, ◌+◌, ◌<◌, ◌≡◌, ◌≤◌}
use Rattle.tierra_model.specs.declared.searching.Found.{Found}
use Rattle.tierra_model.specs.declared.searching.Way.{Way}
use Rattle.tierra_model.specs.declared.searching.Way.TheVariants.{Backward, Forward, Outward}
use Rattle.tierra_model.specs.declared.searching.Found.TheVariants as found
use Rattle.tierra_model.specs.Ring.{forward, backward}
use Rattle.tierra_model.specs.Look.{answer}
use Rattle.tierra_model.specs.Search.{is_complement, search_for, template}

-- ---- the template

-- the m cells from place p on hold nops
abbrev pub AreNops : ℕ → (ℕ → ℕ) → ℕ → ℕ → Type 0
AreNops n cells p m = (j : ℕ) → j < m → cells ((p + j) % n) < 2

-- The list has the numbers in the longest run of nops, of at most k cells, that begins at place p.
pub record IsLongest (n : ℕ) (cells : ℕ → ℕ) (k p : ℕ) (vs : List ℕ) : Type 0 where
  pub few : length vs ≤ k
  pub nops : AreNops n cells p (length vs)
  pub held : (j : ℕ) → j < length vs → get_or vs j 0 ≡ cells ((p + j) % n)
  pub most : (m : ℕ) → m ≤ k → AreNops n cells p m → m ≤ length vs

abbrev pub TemplateIsLongest : Type 0
TemplateIsLongest = (n : ℕ) (cells : ℕ → ℕ) (k p : ℕ) → IsLongest n cells k p (template n cells k p)

-- ---- the candidates

pub data Side : Type 0 where
  OnForward : Side
  OnBackward : Side

abbrev pub is_allowed : Way → Side → Bool
is_allowed Outward side = true
is_allowed Forward OnForward = true
is_allowed Forward OnBackward = false
is_allowed Backward OnForward = false
is_allowed Backward OnBackward = true

-- ip + t + d forward, and ip - t + 1 - d backward
abbrev pub candidate : ℕ → ℕ → ℕ → Side → ℕ → ℕ
candidate n ip t OnForward d = forward n ip (t + d)
candidate n ip t OnBackward d = backward n (ip + 1) (t + d)

-- Distance c on the first side is tried before distance d on the second: it is less, or forward at the same distance.
abbrev pub IsBefore : Side → ℕ → Side → ℕ → Type 0
IsBefore OnForward c OnForward d = c < d
IsBefore OnForward c OnBackward d = c ≤ d
IsBefore OnBackward c side d = c < d

module _ (n : ℕ) (cells : ℕ → ℕ) (ip : ℕ) (way : Way) (limit min : ℕ) where
  abbrev pub nops : List ℕ
  nops = template n cells 10 (ip + 1)

  -- the candidate at the distance on the side is tried, and is the complement
  abbrev pub Matches : Side → ℕ → Type 0
  Matches side d =
      (is_allowed way side ≡ true) × (1 ≤ d) × (d ≤ limit)
      × (is_complement n cells nops (candidate n ip (length nops) side d) ≡ true)

  abbrev pub IsFound : Found → Type 0
  IsFound found.Short = length nops < min
  IsFound found.NoMatch = (min ≤ length nops) × ((side : Side) (d : ℕ) → Matches side d → ⊥)
  IsFound (found.At p) =
      (min ≤ length nops)
      × ((side : Side) × (d : ℕ) × Matches side d × (p ≡ (candidate n ip (length nops) side d + length nops) % n)
      × ((s : Side) (c : ℕ) → IsBefore s c side d → Matches s c → ⊥))

-- A search, which looks at one cell after another, finds what IsFound says.
abbrev pub NearestIsFound : Type 0
NearestIsFound = (n : ℕ) (cells : ℕ → ℕ) (ip : ℕ) (way : Way) (limit min : ℕ)
    → IsFound n cells ip way limit min (answer (search_for n ip way limit min) cells)
