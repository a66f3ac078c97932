-- A move more is made.
use Rattle.std.proofs.Common.{◌≡◌, ℕ, ◌+◌, List, [], ◌∷◌, ◌++◌, sym, ◌∙◌, arith}
use Rattle.std.specs.List.{range_with_len}
use Rattle.std.specs.Prelude.{map}
use Rattle.std.proofs.lemmas.List.FromFn.{map-range_with_len_more}
use Rattle.tierra_model.specs.Draw.{word}
use Rattle.schedule_drill.specs.declared.moves.Move.{Move}
use Rattle.schedule_drill.specs.Moves.{move_of, seed_of}

pub made-more : (number k : ℕ) (items : List Move) (m : Move) → items ≡ map (λ j. move_of (word (seed_of number) 0 j)) (range_with_len 0 k)
    → m ≡ move_of (word (seed_of number) 0 k) → items ++ m ∷ [] ≡ map (λ j. move_of (word (seed_of number) 0 j)) (range_with_len 0 (k + 1))
made-more number k items m is last =
    (λ i. is i ++ last i ∷ []) ∙ sym (map-range_with_len_more (λ j. move_of (word (seed_of number) 0 j)) 0 k k (omega arith))
