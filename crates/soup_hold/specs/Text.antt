-- What a run that keeps checkpoints tells.
use Rattle.std.specs.Prelude.{Bool, List, ◌%◌, ◌&&◌, ◌++◌, ◌+◌, ◌-◌, ◌==◌, codes, filter, nat_lt, ℕ}
use Rattle.std.specs.Fmt.{decimal}
use Rattle.std.specs.List.{flat_map, range_with_len}
use Rattle.report_text.specs.Report.{report}
use Rattle.serial_slicer.specs.Onward.{after}
use Rattle.tierra_model.specs.World.{World}

-- a quantum after m that every divides
abbrev pub is_held : ℕ → ℕ → ℕ → Bool
is_held every m quantum = nat_lt m quantum && quantum % every == 0

-- the multiples of every above m and at most n, in order
unfoldable pub held_quanta : ℕ → ℕ → ℕ → List ℕ
held_quanta every m n = filter (is_held every m) (range_with_len 0 (n + 1))

-- the world after a quantum of a run that goes on from the world first
abbrev pub world_at : World → ℕ → World
world_at first quantum = after (quantum - first.quanta) first

abbrev pub held_line : ℕ → List ℕ
held_line quantum = codes "held " ++ decimal quantum ++ codes "\n"

-- one line for each of the quanta
abbrev pub held_lines : List ℕ → List ℕ
held_lines quanta = flat_map held_line quanta

-- the report of the world after quantum n
unfoldable pub last_report : World → ℕ → List ℕ
last_report first n = report (world_at first n)

-- a line for each checkpoint, and then the report
abbrev pub hold_text : World → ℕ → ℕ → List ℕ
hold_text first n every = held_lines (held_quanta every first.quanta n) ++ last_report first n
