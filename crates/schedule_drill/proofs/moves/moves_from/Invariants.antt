use Rattle.rand_chacha.specs.ChaCha.{key_of}
use Rattle.std.proofs.Common.{◌≡◌, All, map}
use Rattle.std.specs.List.{range_with_len}
use Rattle.tierra_model.specs.Draw.{word}
use Rattle.schedule_drill.specs.Moves.{IsOfHand, move_of, seed_of}
use Rattle.schedule_drill.proofs.moves.moves_from.Given as goal

abbrev pub invariant-loop-place : goal.invariant-loop-place
invariant-loop-place l =
    (l.items.items ≡ map (λ k. move_of (word (seed_of l.fn.number) 0 k)) (range_with_len 0 l._place)) × All IsOfHand l.items.items
    × (l.rng.key ≡ key_of (seed_of l.fn.number)) × (l.rng.stream ≡ 0) × (l.rng.word_pos ≡ l._place)
