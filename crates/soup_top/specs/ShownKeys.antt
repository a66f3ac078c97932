-- A key as a line on a terminal can show it: each control character as \u and its code in four hexadecimal digits.
-- Control characters of one byte are U+0000 to U+001F and U+007F. Those of two bytes are U+0080 to U+009F: the byte
-- 194, then the byte of that number.
use Rattle.std.specs.Prelude.{Bool, List, [], codes, if◌then◌else◌, length, nat_le, nat_lt, slice_index_or, ℕ, ◌%◌}
use Rattle.std.specs.Prelude.{◌&&◌, ◌++◌, ◌+◌, ◌-◌, ◌/◌, ◌==◌, ◌||◌, ◌∷◌}
use Rattle.std.specs.List.{flat_map, range_with_len}

abbrev pub is_low_control : ℕ → Bool
is_low_control byte = nat_lt byte 32 || (byte == 127)

abbrev pub is_high_control : ℕ → Bool
is_high_control byte = nat_le 128 byte && nat_le byte 159

-- the byte at the place is the first of a control character's two bytes; ends_control: it is the second
abbrev pub begins_control : List ℕ → ℕ → Bool
begins_control key place = (slice_index_or key place 0 == 194) && is_high_control (slice_index_or key (place + 1) 0)

abbrev pub ends_control : List ℕ → ℕ → Bool
ends_control key place =
    nat_lt 0 place && ((slice_index_or key (place - 1) 0 == 194) && is_high_control (slice_index_or key place 0))

abbrev pub hex_digit : ℕ → ℕ
hex_digit digit = if nat_lt digit 10 then 48 + digit else 65 + (digit - 10)

abbrev pub code_of : ℕ → List ℕ
code_of character = codes "\\u00" ++ (hex_digit (character / 16) ∷ hex_digit (character % 16) ∷ [])

abbrev pub shown_byte : List ℕ → ℕ → List ℕ
shown_byte key place =
    if begins_control key place then []
    else (if ends_control key place || is_low_control (slice_index_or key place 0)
    then code_of (slice_index_or key place 0)
    else slice_index_or key place 0 ∷ [])

unfoldable pub shown_key : List ℕ → List ℕ
shown_key key = flat_map (shown_byte key) (range_with_len 0 (length key))
