-- The result of a schedule: a fold over its moves.
use Rattle.std.specs.Prelude.{Bool, List, None, Option, Some, [], count_by, false, if◌then◌else◌, is_some, nat_le}
use Rattle.std.specs.Prelude.{nat_lt, replicate, slice_index_or, slice_set, true, ℕ, ◌+◌, ◌-◌, ◌==◌, ◌∷◌}
use Rattle.tierra_model.specs.declared.history.Entry.{Entry}
use Rattle.tierra_model.specs.declared.history.How.TheVariants as how
use Rattle.tierra_model.specs.Findings.{Finding, finding_of}
use Rattle.tierra_model.specs.Setups.{SetupFields}
use Rattle.commit_book.specs.Book.{BookFields, after_commits, first_book, kept, run_length, with_finding, with_next}
use Rattle.commit_book.specs.Claims.{most_ahead, next_job}
use Rattle.schedule_drill.specs.declared.moves.Move.{Move}
use Rattle.schedule_drill.specs.declared.moves.Move.TheVariants as move
use Rattle.schedule_drill.specs.Moves.{hand_of}
use Rattle.schedule_drill.specs.declared.tally.Answered.{Answered}
use Rattle.schedule_drill.specs.declared.tally.Tally.{Tally}

-- the book, what each of the four hands holds, and how many answers of each kind were given
pub record DrillFields : Type 0 where
  pub book : BookFields
  pub hands : List (Option Finding)
  pub answered : Answered

abbrev pub nothing_answered : Answered
nothing_answered = record { kept = 0; twice = 0; late = 0; full = 0; idle = 0 }

-- nothing is committed, and the hands are empty
abbrev pub first_drill : SetupFields → ℕ → DrillFields
first_drill setup quanta =
    record { book = first_book setup quanta 4; hands = replicate 4 None; answered = nothing_answered }

-- ---- the hands, numbered from 1

abbrev pub held : ℕ → DrillFields → Option Finding
held hand d = slice_index_or d.hands (hand - 1) None

abbrev pub with_held : ℕ → Option Finding → DrillFields → DrillFields
with_held hand f d = record d { hands = slice_set d.hands (hand - 1) f }

-- ---- what is counted of the answers

abbrev pub count_kept : DrillFields → DrillFields
count_kept d = record d { answered = record d.answered { kept = d.answered.kept + 1 } }

abbrev pub count_twice : DrillFields → DrillFields
count_twice d = record d { answered = record d.answered { twice = d.answered.twice + 1 } }

abbrev pub count_late : DrillFields → DrillFields
count_late d = record d { answered = record d.answered { late = d.answered.late + 1 } }

abbrev pub count_full : DrillFields → DrillFields
count_full d = record d { answered = record d.answered { full = d.answered.full + 1 } }

abbrev pub count_idle : DrillFields → DrillFields
count_idle d = record d { answered = record d.answered { idle = d.answered.idle + 1 } }

-- ---- the moves

-- a claim: the job's quantum is run at once, and the hand holds what it found
abbrev pub after_claim : ℕ → DrillFields → DrillFields
after_claim hand d =
    if d.book.committed == d.book.quanta then count_idle d
    else if nat_le (most_ahead d.book) (d.book.handed - d.book.committed) then count_full d
    else with_held hand (Some (finding_of (next_job d.book)))
    (record d { book = record d.book { handed = d.book.handed + 1 } })

-- a finding is offered by the hand
abbrev pub after_offer : ℕ → Finding → DrillFields → DrillFields
after_offer hand f d =
    if nat_le f.quantum d.book.committed then count_late d
    else if is_some (kept d.book f.quantum) then count_twice d
    else if nat_lt (d.book.committed + 1) f.quantum then count_kept (record d { book = with_finding f d.book })
    else record d { book = after_commits hand (run_length (with_finding f d.book).stash) (with_finding f d.book) }

abbrev pub after_advance : ℕ → DrillFields → DrillFields
after_advance hand d =
    if d.book.committed == d.book.quanta then count_idle d else record d { book = with_next hand d.book }

-- what a move does where its hand holds this
abbrev pub after_move_with : Option Finding → Move → DrillFields → DrillFields
after_move_with None (move.Claim hand) d = after_claim hand d
after_move_with None (move.Offer hand) d = count_idle d
after_move_with None (move.Repeat hand) d = count_idle d
after_move_with None (move.Lose hand) d = count_idle d
after_move_with None (move.Advance hand) d = after_advance hand d
after_move_with (Some f) (move.Claim hand) d = count_idle d
after_move_with (Some f) (move.Offer hand) d = after_offer hand f (with_held hand None d)
after_move_with (Some f) (move.Repeat hand) d = after_offer hand f d
after_move_with (Some f) (move.Lose hand) d = with_held hand None d
after_move_with (Some f) (move.Advance hand) d = after_advance hand d

abbrev pub after_move : Move → DrillFields → DrillFields
after_move m d = after_move_with (held (hand_of m) d) m d

abbrev pub after_moves : List Move → DrillFields → DrillFields
after_moves [] d = d
after_moves (m ∷ ms) d = after_moves ms (after_move m d)

-- caller 1 advances the book to its end
abbrev pub to_the_end : DrillFields → DrillFields
to_the_end d = record d { book = after_commits 1 (d.book.quanta - d.book.committed) d.book }

-- all moves in order, and then the rest of the quanta
abbrev pub drill : SetupFields → ℕ → List Move → DrillFields
drill setup quanta moves = to_the_end (after_moves moves (first_drill setup quanta))

-- ---- the tally

abbrev pub is_fresh : Entry → Bool
is_fresh e = elim e.how [ how.Fresh ↦ true | how.Missing ↦ false | how.Stale difference ↦ false ]

abbrev pub is_missing : Entry → Bool
is_missing e = elim e.how [ how.Fresh ↦ false | how.Missing ↦ true | how.Stale difference ↦ false ]

abbrev pub is_stale : Entry → Bool
is_stale e = elim e.how [ how.Fresh ↦ false | how.Missing ↦ false | how.Stale difference ↦ true ]

-- how many quanta were committed each way, by the history, and how many answers there were of each kind
abbrev pub tally_of : DrillFields → Tally
tally_of d =
    record {
      fresh = count_by is_fresh d.book.history;
      missing = count_by is_missing d.book.history;
      stale = count_by is_stale d.book.history;
      kept = d.answered.kept;
      twice = d.answered.twice;
      late = d.answered.late;
      full = d.answered.full;
      idle = d.answered.idle;
    }
