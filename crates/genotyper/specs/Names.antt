-- Names of genotypes as texts. In ASCII 48 is the digit 0, and 97 the letter a.
use Rattle.std.specs.Char.{is_ascii_digit, is_ascii_lowercase}
use Rattle.std.specs.List.{list_all, take_while}
use Rattle.std.specs.Fmt.{decimal}
use Rattle.std.specs.Prelude.{Bool, Err, List, Ok, Result, [], drop, if◌then◌else◌, length, nat_le, nat_lt, not}
use Rattle.std.specs.Prelude.{replicate, slice_index, suc, true, false, zero, ℕ, ◌%◌, ◌&&◌, ◌*◌, ◌++◌, ◌+◌, ◌-◌, ◌/◌}
use Rattle.std.specs.Prelude.{◌==◌, ◌^◌, ◌||◌, ◌∷◌}
use Rattle.tierra_model.specs.declared.limits.TheConstants.{COUNT_END, MOST_SIZE}
use Rattle.tierra_model.specs.declared.genebank.Name.{Name}
use Rattle.genotyper.specs.declared.names.NameFault.{NameFault}
use Rattle.genotyper.specs.declared.names.NameFault.TheVariants.{BadLetters, BadSize}

-- ---- the text of a name

-- the size in decimal, filled with zeros on the left to four digits
abbrev pub size_text : ℕ → List ℕ
size_text size = replicate (4 - length (decimal size)) 48 ++ decimal size

-- a word of n letters by its rank among those words: the rank's n digits in base 26, from a for 0
abbrev pub word : ℕ → ℕ → List ℕ
word zero rank = []
word (suc n) rank = (97 + rank / 26 ^ n) ∷ word n (rank % 26 ^ n)

-- a word of n letters or more by its rank among those words, with shorter words first (the first argument bounds how
-- many lengths are tried)
abbrev pub word_from : ℕ → ℕ → ℕ → List ℕ
word_from zero n rank = word n rank
word_from (suc lengths) n rank =
    elim (nat_lt rank (26 ^ n)) [
      | true ↦ word n rank
      | false ↦ word_from lengths (n + 1) (rank - 26 ^ n)
    ]

-- a rank's word, of three letters or more
abbrev pub letters_of : ℕ → List ℕ
letters_of rank = word_from rank 3 rank

unfoldable pub name_text : Name → List ℕ
name_text name = size_text name.size ++ letters_of name.rank

-- ---- the name that a text spells

-- the number that digits of a base write, the highest first; the byte of the digit 0 is first
abbrev pub value_in : ℕ → ℕ → List ℕ → ℕ
value_in base first [] = 0
value_in base first (x ∷ xs) = (x - first) * base ^ length xs + value_in base first xs

-- how many words have at least three letters, and fewer than n + 3
abbrev pub shorter_words : ℕ → ℕ
shorter_words zero = 0
shorter_words (suc n) = shorter_words n + 26 ^ (n + 3)

-- the rank of a word of three letters or more
abbrev pub rank_of : List ℕ → ℕ
rank_of letters = shorter_words (length letters - 3) + value_in 26 97 letters

-- a text is split before its first byte that is no digit
abbrev pub digits_of : List ℕ → List ℕ
digits_of text = take_while is_ascii_digit text

abbrev pub rest_of : List ℕ → List ℕ
rest_of text = drop (length (digits_of text)) text

-- four digits, or more if the first is not 0, that write a number from 1 to 20,000
abbrev pub is_size : List ℕ → Bool
is_size digits =
    nat_le 4 (length digits) && (length digits == 4 || not (slice_index digits 0 == 48))
    && nat_le 1 (value_in 10 48 digits) && nat_le (value_in 10 48 digits) MOST_SIZE

-- three to thirteen lower-case letters
abbrev pub is_word : List ℕ → Bool
is_word bytes = nat_le 3 (length bytes) && nat_le (length bytes) 13 && list_all is_ascii_lowercase bytes

-- the letters of a rank below COUNT_END
abbrev pub are_letters : List ℕ → Bool
are_letters bytes = is_word bytes && nat_lt (rank_of bytes) COUNT_END

-- the name that a text spells; the size is checked first
unfoldable pub name_in : List ℕ → Result Name NameFault
name_in text =
    let digits = digits_of text in
    let rest = rest_of text in
    if not (is_size digits) then Err BadSize
    else if not (are_letters rest) then Err BadLetters
    else Ok (record { size = value_in 10 48 digits; rank = rank_of rest })
