-- Schedules that are made from a number.
use Rattle.std.specs.Int.{to_be_bytes, w64}
use Rattle.std.specs.List.{range_with_len}
use Rattle.std.specs.Prelude.{List, if◌then◌else◌, map, min, nat_lt, replicate, ℕ, ◌%◌, ◌*◌, ◌++◌, ◌+◌, ◌/◌, ◌==◌, ◌≤◌}
use Rattle.tierra_model.specs.Draw.{word}
use Rattle.schedule_drill.specs.declared.moves.Move.{Move}
use Rattle.schedule_drill.specs.declared.moves.Move.TheVariants as move

-- the number in eight bytes, the most significant first, and 24 bytes of 0
abbrev pub seed_of : ℕ → List ℕ
seed_of number = to_be_bytes w64 number ++ replicate 24 0

-- of the eight kinds three claim, two offer, and one each repeat, lose and advance
abbrev pub move_of_kind : ℕ → ℕ → Move
move_of_kind kind hand =
    if nat_lt kind 3 then move.Claim hand
    else if nat_lt kind 5 then move.Offer hand
    else if kind == 5 then move.Repeat hand
    else if kind == 6 then move.Lose hand
    else move.Advance hand

-- the kind is in the lowest three bits of a word, the hand in the next two
abbrev pub move_of : ℕ → Move
move_of w = move_of_kind (w % 8) (1 + w / 8 % 4)

-- four moves for each quantum, for at most 100,000 quanta
abbrev pub number_of_moves : ℕ → ℕ
number_of_moves quanta = 4 * min quanta 100000

-- a move for each word of stream 0
abbrev pub moves_from : ℕ → ℕ → List Move
moves_from number quanta = map (λ k. move_of (word (seed_of number) 0 k)) (range_with_len 0 (number_of_moves quanta))

-- the hand that moves; IsOfHand: it is one of the four
abbrev pub hand_of : Move → ℕ
hand_of (move.Claim hand) = hand
hand_of (move.Offer hand) = hand
hand_of (move.Repeat hand) = hand
hand_of (move.Lose hand) = hand
hand_of (move.Advance hand) = hand

abbrev pub IsOfHand : Move → Type 0
IsOfHand m = (1 ≤ hand_of m) × (hand_of m ≤ 4)
