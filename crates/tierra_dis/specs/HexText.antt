-- Codes as hexadecimal digits.
use Rattle.std.specs.Prelude.{List, [], ◌∷◌, ◌++◌, ℕ, ◌+◌, ◌*◌, ◌/◌, ◌%◌, ◌&&◌, Option, Some, None, Result, Err}
use Rattle.std.specs.Prelude.{if◌then◌else◌, map, nat_lt}
use Rattle.std.specs.Char.{digit_char, digit_value}
use Rattle.std.specs.List.{join_with_byte}
use Rattle.std.specs.Option.{ok_or}
use Rattle.tierra_asm.specs.Words.{PlacedWord, words_of}
use Rattle.tierra_asm.specs.Values.{values_of}
use Rattle.tierra_dis.specs.declared.hex_text.HexFault.{HexFault}
use Rattle.tierra_dis.specs.declared.hex_text.HexFault.TheVariants.{NotHex, TooLong, Empty}
use Rattle.tierra_model.specs.declared.limits.TheConstants.{MOST_SIZE}

-- the byte that two hexadecimal digits of either case write
abbrev pub byte_of : List ℕ → Option ℕ
byte_of (high ∷ low ∷ []) =
    if nat_lt (digit_value high) 16 && nat_lt (digit_value low) 16 then Some (16 * digit_value high + digit_value low)
    else None
byte_of _ = None

-- the byte of a word, by the number of the word in the text
abbrev pub byte_at : ℕ × PlacedWord → Result ℕ HexFault
byte_at (number, word) =
    if nat_lt MOST_SIZE number then Err TooLong
    else ok_or (byte_of word.bytes) (NotHex number)

-- the bytes of a hex text, or its first fault
abbrev pub hex_of : List ℕ → Result (List ℕ) HexFault
hex_of text = values_of byte_at Empty (words_of text)

-- the two lower-case digits of a byte
abbrev pub digits_of : ℕ → List ℕ
digits_of byte = digit_char (byte / 16) ∷ digit_char (byte % 16) ∷ []

-- the bytes of a code in digits, with a space between each two, and a line feed
abbrev pub hex_text : List ℕ → List ℕ
hex_text code = join_with_byte 32 (map digits_of code) ++ 10 ∷ []
