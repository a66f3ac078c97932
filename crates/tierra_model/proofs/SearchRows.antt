-- Worked examples, computed: searches, and what the two creatures of a small soup read and do.
use Rattle.std.proofs.Common.{◌≡◌, ℕ, zero, suc, ◌+◌, List, [], ◌∷◌, ◌++◌, refl, replicate}
use Rattle.std.specs.Prelude.{slice_index, slice_set, None}
use Rattle.tierra_model.specs.declared.events.Event.TheVariants as event
use Rattle.tierra_model.specs.declared.searching.Way.TheVariants.{Outward, Backward}
use Rattle.tierra_model.specs.declared.searching.Found.TheVariants as found
use Rattle.tierra_model.specs.Look.{answer, looks}
use Rattle.tierra_model.specs.Search.{found_by, search_for}
use Rattle.tierra_model.specs.Serial.{start}
use Rattle.tierra_model.specs.Reads.{ahead}
use Rattle.tierra_model.specs.Log.{touched, events_of}
use Rattle.tierra_model.proofs.Computing.{quanta, searches}
use Rattle.tierra_model.proofs.Examples.{two}

-- ---- searches

abbrev pub sixteen : List ℕ
sixteen = 8 ∷ 8 ∷ 8 ∷ 8 ∷ 8 ∷ 8 ∷ 1 ∷ 8 ∷ 8 ∷ 0 ∷ 8 ∷ 1 ∷ 8 ∷ 8 ∷ 8 ∷ 8 ∷ []

pub search-outward : answer (search_for 16 8 Outward 16 1) (slice_index sixteen) ≡ found.At 12
unfolding searches
search-outward = refl

pub search-backward : answer (search_for 16 8 Backward 16 1) (slice_index sixteen) ≡ found.At 7
unfolding searches
search-backward = refl

pub found-outward : found_by 16 (slice_index sixteen) 8 Outward 16 1 ≡ found.At 12
unfolding searches
found-outward = refl

pub found-short : found_by 16 (slice_index (slice_set sixteen 9 8)) 8 Outward 16 1 ≡ found.Short
unfolding searches
found-short = refl

pub found-none : found_by 16 (slice_index sixteen) 8 Outward 1 1 ≡ found.NoMatch
unfolding searches
found-none = refl

pub search-looks : looks (search_for 16 8 Outward 16 1) (slice_index sixteen) ≡ 9 ∷ 10 ∷ 10 ∷ 7 ∷ 11 ∷ []
unfolding searches
search-looks = refl

abbrev pub hundred_cells : List ℕ
hundred_cells = slice_set (slice_set (slice_set (slice_set (replicate 100 8) 3 0) 4 0) 99 1) 0 1

pub search-across : answer (search_for 100 2 Backward 50 1) (slice_index hundred_cells) ≡ found.At 1
unfolding searches
search-across = refl

pub found-across : found_by 100 (slice_index hundred_cells) 2 Backward 50 1 ≡ found.At 1
unfolding searches
found-across = refl

-- ---- a quantum

abbrev pub zeros_from : ℕ → ℕ → List (ℕ × ℕ)
zeros_from p zero = []
zeros_from p (suc k) = (p, 0) ∷ zeros_from (p + 1) k

pub first-reads : touched (start two)
    ≡ (record { cells = (0, 9) ∷ (1, 26) ∷ zeros_from 2 23; free = None; yard = None })
unfolding quanta
first-reads = refl

pub first-events : events_of (start two) ≡ (event.Write 0 26) ∷ []
unfolding quanta
first-events = refl

pub second-reads : touched (ahead (start two) 2 2)
    ≡ (record { cells = (90, 1) ∷ (91, 1) ∷ (92, 1) ∷ (93, 1) ∷ (94, 1) ∷ (zeros_from 95 5 ++ (0, 9) ∷ (1, 26) ∷ zeros_from 2 13); free = None; yard = None })
unfolding quanta
second-reads = refl

pub second-events : events_of (ahead (start two) 2 2) ≡ event.Err ∷ []
unfolding quanta
second-events = refl
