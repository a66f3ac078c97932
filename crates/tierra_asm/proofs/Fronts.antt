-- The words of a text, by what stands at its front.
use Rattle.std.proofs.Common.{◌≡◌, ℕ, ◌+◌, ◌<◌, Bool, true, false, cond, List, [], ◌∷◌, ◌++◌, length, min, map, refl, sym, ap, ◌∙◌, arith, append-nil}
use Rattle.std.specs.Prelude.{All, filter, nat_lt}
use Rattle.std.specs.List.{before_first, enumerate_from, flat_map, onto_first, slice_split}
use Rattle.std.proofs.lemmas.Bool.Decides.{nat_tests}
use Rattle.std.proofs.lemmas.List.Splits.{slice_split-cons_no, slice_split-cons_yes}
use Rattle.std.proofs.lemmas.List.Elements.{All-weaker}
use Rattle.tierra_asm.specs.Words.{words_from, words_of_line, placed_words, is_line_feed, begins_comment, is_separator, ends_word}
use Rattle.tierra_asm.proofs.Parts.{some_part, Fails, IsAtPass, slice_split_onto, before_first-yes, before_first-no, before_first_onto}

-- a part that is a word
abbrev is_some : List ℕ → Bool
is_some part = nat_lt 0 (length part)

-- a line feed begins the next line
pub words_from-line_feed : (n : ℕ) (text : List ℕ) → words_from n (10 ∷ text) ≡ words_from (n + 1) text
words_from-line_feed n text = refl

-- numbers that are one when capped number the lines alike
lines_capped : (lines : List (List ℕ)) (n m : ℕ) → min n 4294967295 ≡ min m 4294967295
    → flat_map placed_words (enumerate_from n lines) ≡ flat_map placed_words (enumerate_from m lines)
lines_capped [] n m same = refl
lines_capped (line ∷ lines) n m same =
    let next : min (n + 1) 4294967295 ≡ min (m + 1) 4294967295 = omega arith in
    (λ i. map (λ w. record { line = same i; bytes = w }) (words_of_line line) ++ lines_capped lines (n + 1) (m + 1) next i)

pub words_from-capped : (n m : ℕ) (text : List ℕ) → min n 4294967295 ≡ min m 4294967295 → words_from n text ≡ words_from m text
words_from-capped n m text same = lines_capped (slice_split is_line_feed text) n m same

-- the words of the first line, and those of the others
words_from_parts : (n : ℕ) (text line : List ℕ) (lines : List (List ℕ)) → slice_split is_line_feed text ≡ line ∷ lines
    → words_from n text ≡ placed_words (n, line) ++ flat_map placed_words (enumerate_from (n + 1) lines)
words_from_parts n text line lines split = ap (λ ls. flat_map placed_words (enumerate_from n ls)) split

-- a change of the first line that keeps its words
words_from_same : (n : ℕ) (text other line changed : List ℕ) (lines : List (List ℕ)) → slice_split is_line_feed text ≡ line ∷ lines
    → slice_split is_line_feed other ≡ changed ∷ lines → words_of_line line ≡ words_of_line changed → words_from n text ≡ words_from n other
words_from_same n text other line changed lines split split_other same =
    words_from_parts n text line lines split
    ∙ ap (λ ws. map (λ word. record { line = min n 4294967295; bytes = word }) ws ++ flat_map placed_words (enumerate_from (n + 1) lines)) same
    ∙ sym (words_from_parts n other changed lines split_other)

-- a byte that separates begins neither a line nor a comment
separator_only : (b : ℕ) → is_separator b ≡ true → (is_line_feed b ≡ false) × (begins_comment b ≡ false)
separator_only b separates = grind (arith, nat_tests)

-- a separator parts no words at the front
pub words_from-separator : (n b : ℕ) (text : List ℕ) → is_separator b ≡ true → words_from n (b ∷ text) ≡ words_from n text
words_from-separator n b text separates =
    let first = some_part is_line_feed text in
    let line = first.0 in
    let only = separator_only b separates in
    words_from_same n (b ∷ text) text (b ∷ line) line first.1
    (slice_split-cons_no is_line_feed b text only.0 ∙ ap (onto_first b) first.2)
    first.2
    (ap (λ part. filter is_some (slice_split is_separator part)) (before_first-no begins_comment b line only.1)
    ∙ ap (λ parts. filter is_some parts) (slice_split-cons_yes is_separator b (before_first begins_comment line) separates))

-- at a line feed or the end the first line is empty
line_end : (text : List ℕ) → IsAtPass is_line_feed text → (lines : List (List ℕ)) × (slice_split is_line_feed text ≡ [] ∷ lines)
line_end [] ends = ([], refl)
line_end (b ∷ text) ends = (slice_split is_line_feed text, slice_split-cons_yes is_line_feed b text ends)

-- a comment has no words
pub words_from-comment : (n b : ℕ) (comment text : List ℕ) → begins_comment b ≡ true → All (Fails is_line_feed) (b ∷ comment) → IsAtPass is_line_feed text
    → words_from n ((b ∷ comment) ++ text) ≡ words_from n text
words_from-comment n b comment text begins inside ends =
    let first = line_end text ends in
    words_from_same n ((b ∷ comment) ++ text) text (b ∷ (comment ++ [])) [] first.0
    (slice_split_onto is_line_feed (b ∷ comment) text [] first.0 inside first.1)
    first.1
    (ap (λ part. filter is_some (slice_split is_separator part)) (before_first-yes begins_comment b (comment ++ []) begins))

-- what a byte of a word is not
no_separator : (b : ℕ) → ends_word b ≡ false → is_separator b ≡ false
no_separator b inside = grind (arith, nat_tests)

no_feed : (b : ℕ) → ends_word b ≡ false → is_line_feed b ≡ false
no_feed b inside = grind (arith, nat_tests)

no_comment : (b : ℕ) → ends_word b ≡ false → begins_comment b ≡ false
no_comment b inside = grind (arith, nat_tests)

only_separates : (b : ℕ) → ends_word b ≡ true → is_line_feed b ≡ false → begins_comment b ≡ false → is_separator b ≡ true
only_separates b ends inner plain = grind (arith, nat_tests)

-- the first line has no word at its front
record HasBlankFront (text : List ℕ) : Type 0 where
  line : List ℕ
  lines : List (List ℕ)
  parts : List (List ℕ)
  split : slice_split is_line_feed text ≡ line ∷ lines
  blank : slice_split is_separator (before_first begins_comment line) ≡ [] ∷ parts

-- so it is at the end, or at a byte that is in no word
word_end : (text : List ℕ) → IsAtPass ends_word text → HasBlankFront text
word_end [] ends = record { line = []; lines = []; parts = []; split = refl; blank = refl }
word_end (b ∷ text) ends =
    let first = some_part is_line_feed text in
    let line = first.0 in
    let joined : is_line_feed b ≡ false → slice_split is_line_feed (b ∷ text) ≡ (b ∷ line) ∷ first.1 =
    λ inner. slice_split-cons_no is_line_feed b text inner ∙ ap (onto_first b) first.2 in
    elim (is_line_feed b) as (λ v. is_line_feed b ≡ v → HasBlankFront (b ∷ text)) [
      | true ↦ λ feeds. record {
        line = [];
        lines = slice_split is_line_feed text;
        parts = [];
        split = slice_split-cons_yes is_line_feed b text feeds;
        blank = refl;
      }
      | false ↦ λ inner. elim (begins_comment b) as (λ v. begins_comment b ≡ v → HasBlankFront (b ∷ text)) [
        | true ↦ λ begins. record {
          line = b ∷ line;
          lines = first.1;
          parts = [];
          split = joined inner;
          blank = ap (slice_split is_separator) (before_first-yes begins_comment b line begins);
        }
        | false ↦ λ plain. record {
          line = b ∷ line;
          lines = first.1;
          parts = slice_split is_separator (before_first begins_comment line);
          split = joined inner;
          blank = ap (slice_split is_separator) (before_first-no begins_comment b line plain)
              ∙ slice_split-cons_yes is_separator b (before_first begins_comment line) (only_separates b ends inner plain);
        }
      ] refl
    ] refl

-- a word and no more stands before the first separator
words_of_front : (word after : List ℕ) (parts : List (List ℕ)) → 0 < length word → All (Fails is_separator) word → slice_split is_separator after ≡ [] ∷ parts
    → filter is_some (slice_split is_separator (word ++ after)) ≡ word ∷ filter is_some (slice_split is_separator after)
words_of_front word after parts some inside blank =
    let counts : nat_lt 0 (length word) ≡ true = grind (arith, nat_tests) in
    rw (slice_split_onto is_separator word after [] parts inside blank, blank, append-nil)
    (ap (λ b. cond b (word ∷ filter is_some parts) (filter is_some parts)) counts)

-- a word at the front is the first word
pub words_from-word : (n : ℕ) (word text : List ℕ) → 0 < length word → All (Fails ends_word) word → IsAtPass ends_word text
    → words_from n (word ++ text) ≡ record { line = min n 4294967295; bytes = word } ∷ words_from n text
words_from-word n word text some inside ends =
    let front = word_end text ends in
    let whole = slice_split_onto is_line_feed word text front.line front.lines (All-weaker (Fails ends_word) (Fails is_line_feed) no_feed word inside)
    front.split in
    let line_words : words_of_line (word ++ front.line) ≡ word ∷ words_of_line front.line =
    ap (λ part. filter is_some (slice_split is_separator part))
    (before_first_onto begins_comment word front.line (All-weaker (Fails ends_word) (Fails begins_comment) no_comment word inside))
    ∙ words_of_front word (before_first begins_comment front.line) front.parts some
    (All-weaker (Fails ends_word) (Fails is_separator) no_separator word inside) front.blank in
    words_from_parts n (word ++ text) (word ++ front.line) front.lines whole
    ∙ ap (λ ws. map (λ w. record { line = min n 4294967295; bytes = w }) ws ++ flat_map placed_words (enumerate_from (n + 1) front.lines)) line_words
    ∙ ap (λ ws. record { line = min n 4294967295; bytes = word } ∷ ws) (sym (words_from_parts n text front.line front.lines front.split))
