-- What is told of a schedule that was made from a number.
use Rattle.std.specs.Fmt.{decimal}
use Rattle.std.specs.Prelude.{List, codes, ℕ, ◌++◌}
use Rattle.tierra_model.specs.Serial.{serial}
use Rattle.tierra_model.specs.Setups.{SetupFields}
use Rattle.report_text.specs.Dump.{state_line}
use Rattle.schedule_drill.specs.declared.tally.Tally.{Tally}
use Rattle.schedule_drill.specs.Drill.{drill, tally_of}
use Rattle.schedule_drill.specs.Moves.{moves_from}

-- a line for each count
abbrev pub tally_text : ℕ → Tally → List ℕ
tally_text quanta t =
    codes "quanta " ++ decimal quanta ++ codes "\nfresh " ++ decimal t.fresh ++ codes "\nmissing " ++ decimal t.missing
    ++ codes "\nstale " ++ decimal t.stale ++ codes "\nkept " ++ decimal t.kept ++ codes "\ntwice " ++ decimal t.twice
    ++ codes "\nlate " ++ decimal t.late ++ codes "\nfull " ++ decimal t.full ++ codes "\nidle " ++ decimal t.idle
    ++ codes "\n"

-- the tally of the schedule, and the digest of the world that the serial run reaches
abbrev pub drill_text : SetupFields → ℕ → ℕ → List ℕ
drill_text setup quanta number =
    tally_text quanta (tally_of (drill setup quanta (moves_from number quanta))) ++ state_line (serial setup quanta)
