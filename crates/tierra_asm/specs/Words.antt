-- The words of a text, in listings and in hex text.
use Rattle.std.specs.Prelude.{Bool, false, List, [], ◌∷◌, ℕ, ◌≡◌, ◌==◌, ◌||◌, filter, length, map, min, nat_lt}
use Rattle.std.specs.List.{before_first, enumerate_from, flat_map, slice_split}

-- a word with the number of its line
pub record PlacedWord : Type 0 where
  pub line : ℕ
  pub bytes : List ℕ

abbrev pub is_line_feed : ℕ → Bool
is_line_feed b = b == 10

-- a semicolon, which begins a comment to the end of its line
abbrev pub begins_comment : ℕ → Bool
begins_comment b = b == 59

-- space, tab and carriage return, which separate the words of a line
abbrev pub is_separator : ℕ → Bool
is_separator b = b == 32 || b == 9 || b == 13

-- the words of a line: the parts between separators before the comment
abbrev pub words_of_line : List ℕ → List (List ℕ)
words_of_line line = filter (λ part. nat_lt 0 (length part))
    (slice_split is_separator (before_first begins_comment line))

-- the words of a numbered line, each with the number of the line, or 4,294,967,295 if that is less
abbrev pub placed_words : ℕ × List ℕ → List PlacedWord
placed_words (number, line) = map (λ word. record { line = min number 4294967295; bytes = word }) (words_of_line line)

-- the words of a text whose first line has this number
abbrev pub words_from : ℕ → List ℕ → List PlacedWord
words_from first text = flat_map placed_words (enumerate_from first (slice_split is_line_feed text))

-- the words of a text in order, its lines counted from 1
abbrev pub words_of : List ℕ → List PlacedWord
words_of text = words_from 1 text

-- a byte that is in no word
abbrev pub ends_word : ℕ → Bool
ends_word b = is_separator b || is_line_feed b || begins_comment b

-- the text is empty or begins with a byte of a word
abbrev pub IsAtWord : List ℕ → Type 0
IsAtWord [] = Unit {0}
IsAtWord (b ∷ text) = ends_word b ≡ false
