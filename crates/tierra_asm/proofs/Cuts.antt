-- A text that is cut after what stands at its front.
use Rattle.std.proofs.Common.{◌≡◌, ℕ, ◌+◌, ◌<◌, ◌^◌, Bool, true, false, List, [], ◌∷◌, Some, length, min, not, take, drop, slice_get, IsUtf8, sym, ap, ◌∙◌}
use Rattle.std.proofs.Common.{arith, take-append-drop, length-take}
use Rattle.std.specs.List.{position_or_len}
use Rattle.std.specs.Str.{IsCharBoundary}
use Rattle.std.proofs.lemmas.Bool.Decides.{nat_tests}
use Rattle.std.proofs.lemmas.List.Sums.{passes_at_first, prefix_len-le-length}
use Rattle.std.proofs.lemmas.Str.{IsCharBoundary-after_ascii}
use Rattle.tierra_asm.specs.Words.{words_from, is_line_feed, begins_comment, is_separator, ends_word, IsAtWord}
use Rattle.std.proofs.lemmas.List.Elements.{All-cons}
use Rattle.tierra_asm.proofs.Parts.{Fails, All-before_first, at_first, before_first-no, drop_first-no}
use Rattle.tierra_asm.proofs.Fronts.{words_from-line_feed, words_from-separator, words_from-capped, words_from-comment, words_from-word}

pub drop_line_feed : (n b : ℕ) (text : List ℕ) → slice_get text 0 ≡ Some b → b ≡ 10 → words_from (min (n + 1) 4294967295) (drop 1 text) ≡ words_from n text
drop_line_feed n b [] first feeds = absurd cc
drop_line_feed n b (x ∷ text) first feeds =
    let is : x ≡ 10 = cc in
    words_from-capped (min (n + 1) 4294967295) (n + 1) text (omega arith) ∙ rw is (sym (words_from-line_feed n text))

pub drop_separator : (n b : ℕ) (text : List ℕ) → slice_get text 0 ≡ Some b → is_separator b ≡ true → words_from n (drop 1 text) ≡ words_from n text
drop_separator n b [] first separates = absurd cc
drop_separator n b (x ∷ text) first separates =
    let is : x ≡ b = cc in
    sym (words_from-separator n x text (ap is_separator is ∙ separates))

comment_no_feed : (b : ℕ) → begins_comment b ≡ true → is_line_feed b ≡ false
comment_no_feed b begins = grind (arith, nat_tests)

pub drop_comment : (n b : ℕ) (text : List ℕ) → slice_get text 0 ≡ Some b → begins_comment b ≡ true
    → words_from n (drop (position_or_len is_line_feed text) text) ≡ words_from n text
drop_comment n b [] first begins = absurd cc
drop_comment n b (x ∷ text) first begins =
    let is : x ≡ b = cc in
    let begins_here = ap begins_comment is ∙ begins in
    let inner = comment_no_feed x begins_here in
    let end = position_or_len is_line_feed text in
    ap (words_from n) (drop_first-no is_line_feed x text inner)
    ∙ sym (words_from-comment n x (take end text) (drop end text) begins_here
    (All-cons (Fails is_line_feed) x (take end text) inner (All-before_first is_line_feed text)) (at_first is_line_feed text))
    ∙ ap (λ t. words_from n (x ∷ t)) (take-append-drop end text)

-- a word at the front, which is not empty
some_word : (text : List ℕ) → IsAtWord text → 0 < length text → 0 < length (take (position_or_len ends_word text) text)
some_word [] at_word some = some
some_word (x ∷ text) at_word some = omega (arith, ap length (before_first-no ends_word x text at_word))

pub drop_word : (n : ℕ) (text : List ℕ) → n < 2 ^ 32 → IsAtWord text → 0 < length text
    → words_from n text ≡ record { line = n; bytes = take (position_or_len ends_word text) text } ∷ words_from n (drop (position_or_len ends_word text) text)
drop_word n text fits at_word some =
    let end = position_or_len ends_word text in
    let line : min n 4294967295 ≡ n = omega arith in
    ap (words_from n) (sym (take-append-drop end text))
    ∙ words_from-word n (take end text) (drop end text) (some_word text at_word some) (All-before_first ends_word text) (at_first ends_word text)
    ∙ ap (λ m. record { line = m; bytes = take end text } ∷ words_from n (drop end text)) line

-- the same, where the word and what follows it have names
pub first_word : (n end : ℕ) (rest word after : List ℕ) → n < 2 ^ 32 → IsAtWord rest → end ≡ position_or_len ends_word rest → word ≡ take end rest
    → after ≡ drop end rest → 0 < length word → words_from n rest ≡ record { line = n; bytes = word } ∷ words_from n after
first_word n end rest word after fits at_word end_is word_is after_is some =
    let whole : 0 < length rest = omega (arith, ap length word_is, length-take {A = ℕ}) in
    rw (word_is, after_is, end_is) (drop_word n rest fits at_word whole)

-- a place after an ASCII byte is between characters
pub cut_after : (b : ℕ) (text : List ℕ) → IsUtf8 text → slice_get text 0 ≡ Some b → b < 128 → IsCharBoundary text 1
cut_after b [] utf8 first ascii = absurd cc
cut_after b (x ∷ text) utf8 first ascii =
    let is : x ≡ b = cc in
    IsCharBoundary-after_ascii (x ∷ text) 0 utf8 (omega arith) (omega arith)

-- and one before an ASCII byte, or the end
pub cut_at_first : (p : ℕ → Bool) → ((b : ℕ) → p b ≡ true → b < 128) → (text : List ℕ) → IsCharBoundary text (position_or_len p text)
cut_at_first p ascii text = (
  prefix_len-le-length (λ b. not (p b)) text,
  λ within high. let low = ascii _ (passes_at_first p text 0 within) in absurd (omega arith),
)

pub separator_is_ascii : (b : ℕ) → is_separator b ≡ true → b < 128
separator_is_ascii b separates = grind (arith, nat_tests)

pub word_end_is_ascii : (b : ℕ) → ends_word b ≡ true → b < 128
word_end_is_ascii b ends = grind (arith, nat_tests)

pub line_feed_is_ascii : (b : ℕ) → is_line_feed b ≡ true → b < 128
line_feed_is_ascii b feeds = grind (arith, nat_tests)
