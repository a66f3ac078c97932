-- Words that are read one by one, each for its value.
use Rattle.std.proofs.Common.{◌≡◌, ℕ, ◌+◌, List, ◌++◌, Result, Ok, Err, length}
use Rattle.tierra_asm.specs.Words.{PlacedWord}
use Rattle.tierra_asm.specs.Values.{values_from}

-- values put before others, if there is no error
abbrev pub after_values : {T E : Type 0} → List T → Result (List T) E → Result (List T) E
after_values xs (Ok ys) = Ok (xs ++ ys)
after_values xs (Err e) = Err e

module _ {E : Type 0} (value : ℕ × PlacedWord → Result ℕ E) (words : List PlacedWord) where
  -- the first words are read, with these values, and others are left
  pub record IsRead (values : List ℕ) (left : List PlacedWord) : Type 0 where
    pub count : length values + length left ≡ length words
    pub answer : values_from value 1 words ≡ after_values values (values_from value (length values + 1) left)
