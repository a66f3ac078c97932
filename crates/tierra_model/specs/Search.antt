-- The search for a template's complement.
use Rattle.std.specs.Prelude.{Bool, List, None, Option, Some, [], false, find, if◌then◌else◌, length, min, nat_lt, suc}
use Rattle.std.specs.Prelude.{true, zero, ℕ, ◌%◌, ◌&&◌, ◌++◌, ◌+◌, ◌==◌, ◌∷◌}
use Rattle.tierra_model.specs.declared.searching.Found.{Found}
use Rattle.tierra_model.specs.declared.searching.Way.{Way}
use Rattle.tierra_model.specs.declared.searching.Way.TheVariants.{Backward, Forward, Outward}
use Rattle.tierra_model.specs.declared.searching.Found.TheVariants as found
use Rattle.tierra_model.specs.Ring.{forward, backward}
use Rattle.tierra_model.specs.Look.{Answer, Look, cell, ◌>>=◌}

-- ---- what is found

-- The longest run of nops of at most k cells from place p on, as the numbers in its cells.
unfoldable pub template : ℕ → (ℕ → ℕ) → ℕ → ℕ → List ℕ
template n cells zero p = []
template n cells (suc k) p =
    if nat_lt (cells (p % n)) 2 then cells (p % n) ∷ template n cells k (p + 1) else []

-- The cells from p on hold 1 where the template has 0, and 0 where it has 1: in both cases they add up to 1.
unfoldable pub is_complement : ℕ → (ℕ → ℕ) → List ℕ → ℕ → Bool
is_complement n cells [] p = true
is_complement n cells (v ∷ vs) p =
    (v + cells (p % n) == 1) && is_complement n cells vs (p + 1)

-- the candidates at distance d, of a template of t cells: forward before backward
abbrev pub at_distance : ℕ → ℕ → ℕ → Way → ℕ → List ℕ
at_distance n ip t Outward d = forward n ip (t + d) ∷ backward n (ip + 1) (t + d) ∷ []
at_distance n ip t Forward d = forward n ip (t + d) ∷ []
at_distance n ip t Backward d = backward n (ip + 1) (t + d) ∷ []

-- the candidates at distance d and at the k - 1 distances after it, the nearest first
unfoldable pub candidates : ℕ → ℕ → ℕ → Way → ℕ → ℕ → List ℕ
candidates n ip t way zero d = []
candidates n ip t way (suc k) d = at_distance n ip t way d ++ candidates n ip t way k (d + 1)

-- the place after the match, if there is one
abbrev pub found_at : ℕ → ℕ → Option ℕ → Found
found_at n t None = found.NoMatch
found_at n t (Some p) = found.At ((p + t) % n)

-- What a search in a ring of n cells finds: Short for a template of less than min cells, and otherwise the place after
-- the first candidate that is a complement, or NoMatch.
unfoldable pub found_by : ℕ → (ℕ → ℕ) → ℕ → Way → ℕ → ℕ → Found
found_by n cells ip way limit min =
    let vs = template n cells 10 (ip + 1) in
    let t = length vs in
    if nat_lt t min then found.Short
    else found_at n t (find (is_complement n cells vs) (candidates n ip t way limit 1))

-- ---- which cells are looked at

unfoldable pub read_template : ℕ → ℕ → ℕ → Look (List ℕ)
read_template n zero p = Answer []
read_template n (suc k) p = do
  v ← cell (p % n)
  if nat_lt v 2 then read_template n k (p + 1) >>= (λ vs. Answer (v ∷ vs)) else Answer []

-- up to the first mismatch
unfoldable pub compare : ℕ → List ℕ → ℕ → Look Bool
compare n [] p = Answer true
compare n (v ∷ vs) p = do
  u ← cell (p % n)
  if v + u == 1 then compare n vs (p + 1) else Answer false

-- up to the first candidate that matches
unfoldable pub try_each : ℕ → List ℕ → List ℕ → Look (Option ℕ)
try_each n vs [] = Answer None
try_each n vs (p ∷ ps) = do
  matches ← compare n vs p
  if matches then Answer (Some p) else try_each n vs ps

unfoldable pub search_from : ℕ → ℕ → Way → ℕ → ℕ → List ℕ → Look Found
search_from n ip way limit min vs =
    let t = length vs in
    if nat_lt t min then Answer found.Short
    else try_each n vs (candidates n ip t way limit 1) >>= (λ p. Answer (found_at n t p))

unfoldable pub search_for : ℕ → ℕ → Way → ℕ → ℕ → Look Found
search_for n ip way limit min = read_template n 10 (ip + 1) >>= search_from n ip way limit min
