-- The births and deaths of a run, and the text of its curve.
use Rattle.std.specs.Prelude.{Bool, List, ◌%◌, ◌++◌, ◌+◌, ◌-◌, ◌==◌, ◌||◌, codes, filter, length, map, nat_lt, not, ℕ}
use Rattle.std.specs.Fmt.{decimal}
use Rattle.std.specs.List.{flat_map, range_with_len}
use Rattle.tierra_model.specs.Counting.{times_in}
use Rattle.tierra_model.specs.Living.{ids_of}
use Rattle.tierra_model.specs.Serial.{serial}
use Rattle.tierra_model.specs.Setups.{SetupFields}
use Rattle.tierra_model.specs.World.{World}
use Rattle.run_log.specs.declared.log.Point.{Point}
use Rattle.run_log.specs.declared.record.Record.{Record}
use Rattle.run_log.specs.declared.record.Record.TheVariants.{Birth, Death}

-- ---- the records, where v is the world before a quantum and w the one after it

abbrev pub lives : World → ℕ → Bool
lives w id = nat_lt 0 (times_in (ids_of w.living) id)

-- the birth numbers given out in the quantum
abbrev pub born_in : World → World → List ℕ
born_in v w = range_with_len v.next_birth (w.next_birth - v.next_birth)

-- those who lived before, or were born
abbrev pub lived_in : World → World → List ℕ
lived_in v w = ids_of v.living ++ born_in v w

-- those who lived before or were born, and do not live after the quantum
abbrev pub dead_in : World → World → List ℕ
dead_in v w = filter (λ id. not (lives w id)) (lived_in v w)

abbrev pub records_in : ℕ → World → World → List Record
records_in quantum v w = map (λ id. Birth quantum id) (born_in v w) ++ map (λ id. Death quantum id) (dead_in v w)

-- the records of the first n quanta
unfoldable pub run_records : SetupFields → ℕ → List Record
run_records setup n = flat_map (λ k. records_in (k + 1) (serial setup k) (serial setup (k + 1))) (range_with_len 0 n)

-- ---- the curve

-- what a world counts
abbrev pub counts_of : World → Point
counts_of w = record { living = length w.living; births = w.births; deaths = w.deaths }

-- whether the quantum is a multiple of `every`, or n itself
abbrev pub is_shown : ℕ → ℕ → ℕ → Bool
is_shown n every quantum = (quantum % every == 0) || (quantum == n)

abbrev pub shown : ℕ → ℕ → List ℕ
shown n every = filter (is_shown n every) (range_with_len 0 (n + 1))

-- ---- the text

abbrev pub record_line : Record → List ℕ
record_line (Birth quantum id) = codes "birth " ++ decimal quantum ++ codes " " ++ decimal id ++ codes "\n"
record_line (Death quantum id) = codes "death " ++ decimal quantum ++ codes " " ++ decimal id ++ codes "\n"

abbrev pub point_line : ℕ → Point → List ℕ
point_line quantum p =
    codes "at " ++ decimal quantum ++ codes " living " ++ decimal p.living ++ codes " births " ++ decimal p.births
    ++ codes " deaths " ++ decimal p.deaths ++ codes "\n"

-- the records, then the counts of the worlds shown
unfoldable pub curve_text : SetupFields → ℕ → ℕ → List ℕ
curve_text setup n every =
    flat_map record_line (run_records setup n) ++ flat_map (λ q. point_line q (counts_of (serial setup q)))
    (shown n every)
