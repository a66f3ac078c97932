-- The calls that a desk in memory can have had: each that writes begins inside the file, and writes bytes.
use Rattle.std.specs.Prelude.{ℕ, ◌+◌, ◌≤◌, Bool, true, ◌&&◌, leb, max, List, [], ◌∷◌, length}
use Rattle.std.specs.Simd.Lanes.{all_below}
use Rattle.desk_io.specs.Desk.{AreBytes}
use Rattle.test_desks.specs.Calls.{Moment}
use Rattle.test_desks.specs.declared.call.Call.{Call}
use Rattle.test_desks.specs.declared.call.Call.TheVariants.{Write}
use Rattle.test_desks.specs.declared.call.CallRecord.{CallRecord}

-- a call that writes begins inside a file of this length, and writes bytes
abbrev pub IsInside : ℕ → Call → Type 0
IsInside n (Write at piece) = (at ≤ n) × AreBytes piece
IsInside n _ = Unit {0}

-- the length of a file after a call
abbrev pub grown : ℕ → Call → ℕ
grown n (Write at piece) = max n (at + length piece)
grown n _ = n

-- each call in turn satisfies IsInside, for a file that has length n before the first
abbrev pub Fits : ℕ → List CallRecord → Type 0
Fits n [] = Unit {0}
Fits n (r ∷ records) = IsInside n r.call × Fits (grown n r.call) records

-- the durable file is bytes, and the calls since begin inside the file and write bytes
pub record IsMoment (m : Moment) : Type 0 where
  pub bytes : AreBytes m.durable
  pub fits : Fits (length m.durable) m.since

-- whether IsInside, Fits and IsMoment hold
abbrev pub is_inside : ℕ → Call → Bool
is_inside n (Write at piece) = leb at n && all_below 256 piece
is_inside n _ = true

abbrev pub do_fit : ℕ → List CallRecord → Bool
do_fit n [] = true
do_fit n (r ∷ records) = is_inside n r.call && do_fit (grown n r.call) records

abbrev pub is_moment : Moment → Bool
is_moment m = all_below 256 m.durable && do_fit (length m.durable) m.since
