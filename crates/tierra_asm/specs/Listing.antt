-- What a listing stands for.
use Rattle.std.specs.Prelude.{List, ℕ, Result, Err, if◌then◌else◌, nat_lt}
use Rattle.std.specs.Option.{ok_or}
use Rattle.soup_ops.specs.Names.{code_of}
use Rattle.tierra_asm.specs.Words.{PlacedWord, words_of}
use Rattle.tierra_asm.specs.Values.{values_of}
use Rattle.tierra_asm.specs.declared.AsmFault.{AsmFault}
use Rattle.tierra_asm.specs.declared.AsmFault.TheVariants.{UnknownName, TooLong, Empty}
use Rattle.tierra_model.specs.declared.limits.TheConstants.{MOST_SIZE}

-- the code that a word names, by the number of the word in the text
abbrev pub named_code : ℕ × PlacedWord → Result ℕ AsmFault
named_code (number, word) =
    if nat_lt MOST_SIZE number then Err (TooLong word.line)
    else ok_or (code_of word.bytes) (UnknownName word.line)

-- the code of a listing, or its first fault
abbrev pub listing_of : List ℕ → Result (List ℕ) AsmFault
listing_of text = values_of named_code Empty (words_of text)
