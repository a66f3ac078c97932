-- What the words of a text stand for: one value for each word.
use Rattle.std.specs.Prelude.{List, [], ◌∷◌, ℕ, Result, Ok, Err, map}
use Rattle.std.specs.List.{enumerate_from}
use Rattle.tierra_asm.specs.Words.{PlacedWord}

-- a value put before the others, unless they are an error
abbrev pub after_value : {T E : Type 0} → T → Result (List T) E → Result (List T) E
after_value x (Ok xs) = Ok (x ∷ xs)
after_value x (Err e) = Err e

-- all the values, or the first error
abbrev pub all_or_first_error : {T E : Type 0} → List (Result T E) → Result (List T) E
all_or_first_error [] = Ok []
all_or_first_error (Ok x ∷ results) = after_value x (all_or_first_error results)
all_or_first_error (Err e ∷ results) = Err e

-- the values of the words, each read with its number; the first word has number `first`
abbrev pub values_from : {E : Type 0} → (ℕ × PlacedWord → Result ℕ E) → ℕ → List PlacedWord → Result (List ℕ) E
values_from value first words = all_or_first_error (map value (enumerate_from first words))

-- the values of all words, which are counted from 1; no words at all give the error `empty`
abbrev pub values_of : {E : Type 0} → (ℕ × PlacedWord → Result ℕ E) → E → List PlacedWord → Result (List ℕ) E
values_of value empty [] = Err empty
values_of value empty (word ∷ words) = values_from value 1 (word ∷ words)
