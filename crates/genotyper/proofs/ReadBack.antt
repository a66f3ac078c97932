-- Names are read back from their texts, and from no others.
use Rattle.std.proofs.Common.{◌≡◌, ℕ, ◌^◌, ◌<◌, ◌≤◌, Bool, true, false, List, [], ◌∷◌, ◌++◌, refl, sym, ◌∙◌, ap, arith, drop, length, subst}
use Rattle.std.proofs.Math.Seq.{drop-append_seam}
use Rattle.std.proofs.lemmas.Bool.{and_parts}
use Rattle.std.proofs.lemmas.Bool.Decides.{nat_tests}
use Rattle.std.proofs.lemmas.List.{take-append-drop}
use Rattle.std.proofs.lemmas.List.Sums.{take_while-cons}
use Rattle.std.specs.Char.{is_ascii_digit, is_ascii_lowercase}
use Rattle.std.specs.List.{list_all}
use Rattle.std.specs.Prelude.{Err, IfOk, Ok, Result, if◌then◌else◌, not}
use Rattle.std.specs.Str.{all_ascii_digits}
use Rattle.tierra_model.specs.declared.limits.TheConstants.{COUNT_END, MOST_SIZE}
use Rattle.tierra_model.specs.declared.genebank.Name.{Name}
use Rattle.tierra_model.specs.Groups.{IsName}
use Rattle.genotyper.specs.declared.names.NameFault.{NameFault}
use Rattle.genotyper.specs.declared.names.NameFault.TheVariants.{BadLetters, BadSize}
use Rattle.genotyper.specs.Names.{are_letters, digits_of, is_size, is_word, letters_of, name_in, name_text, rank_of, rest_of, size_text, value_in}
use Rattle.genotyper.proofs.Ranks.{are_letters-letters_of, letters_of-rank_of, rank_of-letters_of}
use Rattle.genotyper.proofs.Sizes.{digits-size_text, is_size-size_text, size_text-value, value-size_text}
use Rattle.genotyper.proofs.Spelling.{digits_of_are_digits, take-digits_of}

-- ---- where a text is split

digits_of-letters : (ls : List ℕ) → list_all is_ascii_lowercase ls ≡ true → digits_of ls ≡ []
digits_of-letters [] h = refl
digits_of-letters (x ∷ xs) h =
    let low : 97 ≤ x = grind (arith, nat_tests) in
    let other : is_ascii_digit x ≡ false = grind (arith, nat_tests) in
    rw (take_while-cons is_ascii_digit x xs, other)

digits_of-append : (ds ls : List ℕ) → all_ascii_digits ds ≡ true → digits_of ls ≡ [] → digits_of (ds ++ ls) ≡ ds
digits_of-append [] ls h k = k
digits_of-append (x ∷ xs) ls h k =
    let parts = and_parts (is_ascii_digit x) (all_ascii_digits xs) h in
    rw (take_while-cons is_ascii_digit x (xs ++ ls), parts.0, digits_of-append xs ls parts.1 k)

split : (text : List ℕ) → text ≡ digits_of text ++ rest_of text
split text = sym (take-append-drop (length (digits_of text)) text) ∙ ap (λ xs. xs ++ rest_of text) (take-digits_of text)

-- ---- names

lowercase : (ls : List ℕ) → are_letters ls ≡ true → list_all is_ascii_lowercase ls ≡ true
lowercase ls h =
    let spelled : is_word ls ≡ true = (and_parts _ _ h).0 in
    (and_parts _ _ spelled).1

-- each name is read from its text
name_in-name_text : (name : Name) → IsName name → name_in (name_text name) ≡ Ok name
unfolding name_in name_text
name_in-name_text name h =
    let small : name.size < 2 ^ 64 = omega (arith, h) in
    let letters = are_letters-letters_of name.rank h.2 in
    let digits : digits_of (name_text name) ≡ size_text name.size =
    digits_of-append (size_text name.size) (letters_of name.rank) (digits-size_text name.size small)
    (digits_of-letters (letters_of name.rank) (lowercase (letters_of name.rank) letters)) in
    let rest : drop (length (size_text name.size)) (name_text name) ≡ letters_of name.rank = drop-append_seam (size_text name.size) (letters_of name.rank) in
    rw (digits, rest, is_size-size_text name.size h.0 h.1, letters, value-size_text name.size small, rank_of-letters_of name.rank)

-- what is read is a name whose text it is
name_in-is_text : (text : List ℕ) → IfOk (name_in text) (λ name. IsName name × (text ≡ name_text name))
unfolding name_in name_text
name_in-is_text text = go (is_size (digits_of text)) (are_letters (rest_of text)) refl refl
  where
    go : (b d : Bool) → is_size (digits_of text) ≡ b → are_letters (rest_of text) ≡ d
        → IfOk (if not b then Err BadSize else if not d then Err BadLetters
        else Ok (record { size = value_in 10 48 (digits_of text); rank = rank_of (rest_of text) }))
        (λ name. IsName name × (text ≡ name_text name))
    go false d e f = tt
    go true false e f = tt
    go true true e f =
        let least : 1 ≤ value_in 10 48 (digits_of text) = grind (arith, nat_tests) in
        let most : value_in 10 48 (digits_of text) ≤ MOST_SIZE = grind (arith, nat_tests) in
        let small : rank_of (rest_of text) < COUNT_END = grind (arith, nat_tests) in
        let spelled : is_word (rest_of text) ≡ true = (and_parts _ _ f).0 in (
          (least, most, small),
          split text
              ∙ ap (λ ds. ds ++ rest_of text) (sym (size_text-value (digits_of text) (digits_of_are_digits text) e))
              ∙ ap (λ ls. size_text (value_in 10 48 (digits_of text)) ++ ls) (sym (letters_of-rank_of (rest_of text) spelled)),
        )

-- the same of what an equation says to be read
pub is_text_of : (text : List ℕ) (r : Result Name NameFault) → r ≡ name_in text → IfOk r (λ name. IsName name × (text ≡ name_text name))
is_text_of text r e = subst (λ (s : Result Name NameFault). IfOk s (λ name. IsName name × (text ≡ name_text name))) (sym e) (name_in-is_text text)

pub each_is_read : (text : List ℕ) (r : Result Name NameFault) (name : Name) → r ≡ name_in text → IsName name → text ≡ name_text name → r ≡ Ok name
each_is_read text r name e h is = e ∙ ap name_in is ∙ name_in-name_text name h
