-- A stream that is read in order.
use Rattle.rand_chacha.specs.ChaCha.{word_at}
use Rattle.std.specs.Prelude.{List, [], ℕ, ◌*◌, ◌+◌, ◌∷◌}

-- the key and the number of the stream, and the instruction whose words were read last
pub record ReadingFields : Type 0 where
  pub key : List ℕ
  pub stream : ℕ
  pub instruction : ℕ

-- words 0 to 2, which come before those of the instructions
abbrev pub first_words : List ℕ → ℕ → List ℕ
first_words key stream =
    word_at 4 key stream 0 ∷ word_at 4 key stream 1 ∷ word_at 4 key stream 2 ∷ []

-- four words of the stream, from word n on
abbrev pub words_at : List ℕ → ℕ → ℕ → List ℕ
words_at key stream n =
    word_at 4 key stream n ∷ word_at 4 key stream (n + 1) ∷ word_at 4 key stream (n + 2) ∷ word_at 4 key stream (n + 3)
    ∷ []

-- the words of instruction i: two that decide on its flaw, and two on a flip in its copy
abbrev pub instruction_words : List ℕ → ℕ → ℕ → List ℕ
instruction_words key stream i = words_at key stream (3 + 4 * i)
