-- The listing of a code assembles to the code.
use Rattle.std.proofs.Common.{◌≡◌, ℕ, ◌+◌, ◌<◌, ◌≤◌, List, [], ◌∷◌, ◌++◌, Ok, Err, Some, cond, false, length, map, get_or, slice_get, min, refl, ap, ◌∙◌, arith}
use Rattle.std.proofs.Common.{append_assoc}
use Rattle.std.specs.Prelude.{All, nat_lt}
use Rattle.std.specs.Option.{ok_or}
use Rattle.std.specs.List.{concat, enumerate_from}
use Rattle.std.proofs.lemmas.Bool.Decides.{nat_tests}
use Rattle.std.proofs.lemmas.List.Elements.{All-head, All-tail}
use Rattle.std.proofs.lemmas.Option.{slice_get-get_or}
use Rattle.tierra_model.specs.declared.limits.TheConstants.{MOST_SIZE}
use Rattle.tierra_model.specs.Table.{ops}
use Rattle.tierra_model.specs.declared.ops.Op.TheVariants.{Nop0}
use Rattle.soup_ops.specs.Names.{name_of, code_of}
use Rattle.tierra_asm.specs.Words.{PlacedWord, words_from}
use Rattle.tierra_asm.specs.Values.{after_value, all_or_first_error, values_from, values_of}
use Rattle.tierra_asm.specs.declared.AsmFault.TheVariants.{Empty, TooLong, UnknownName}
use Rattle.tierra_asm.specs.Listing.{named_code}
use Rattle.tierra_asm.proofs.Fronts.{words_from-word}
use Rattle.tierra_dis.specs.Disassembly.{line_at, line_of}
use Rattle.tierra_dis.specs.Laws.{ListingsReadBack}
use Rattle.tierra_dis.proofs.Table.{name_back}

-- the lines of a code, and the code of its lines
record HasLines (place number line : ℕ) (code : List ℕ) : Type 0 where
  lines : List (List ℕ)
  written : all_or_first_error (map line_at (enumerate_from place code)) ≡ Ok lines
  read : values_from named_code number (words_from line (concat lines)) ≡ Ok code

-- a name within the first 20,000 is read as its code
named_code_is : (number line code : ℕ) (bytes : List ℕ) → number < 20001 → code_of bytes ≡ Some code
    → named_code (number, record { line = line; bytes = bytes }) ≡ Ok code
named_code_is number line code bytes within is =
    let few : nat_lt MOST_SIZE number ≡ false = grind (arith, nat_tests) in
    ap (λ o. cond (nat_lt MOST_SIZE number) (Err (TooLong line)) (ok_or o (UnknownName line))) is
    ∙ ap (λ b. cond b (Err (TooLong line)) (Ok code)) few

-- each code has lines, from any place on
has_lines : (place number line : ℕ) (code : List ℕ) → All (λ v. v < 32) code → number + length code ≤ 20001 → HasLines place number line code
has_lines place number line [] small few = record { lines = []; written = refl; read = refl }
has_lines place number line (byte ∷ code) small few =
    let rest = has_lines (place + 1) (number + 1) (line + 1) code (All-tail (λ v. v < 32) byte code small) (omega arith) in
    let op = get_or ops byte Nop0 in
    let there : slice_get ops byte ≡ Some op = slice_get-get_or ops byte Nop0 (All-head (λ v. v < 32) byte code small) in
    let named = name_back byte op there in
    let name = name_of op in
    let words = append_assoc name (10 ∷ []) (concat rest.lines) in
    record {
      lines = (name ++ 10 ∷ []) ∷ rest.lines;
      written = ap (λ r. all_or_first_error (line_of place r ∷ map line_at (enumerate_from (place + 1) code))) there
          ∙ ap (after_value (name ++ 10 ∷ [])) rest.written;
      read = ap (λ text. values_from named_code number (words_from line text)) words
          ∙ ap (values_from named_code number) (words_from-word line name (10 ∷ concat rest.lines) named.some named.word refl)
          ∙ ap (λ r. all_or_first_error (r ∷ map named_code (enumerate_from (number + 1) (words_from (line + 1) (concat rest.lines)))))
          (named_code_is number (min line 4294967295) byte name (omega arith) named.stands)
          ∙ ap (after_value byte) rest.read;
    }

-- there is a word where there is a value
values_of_some : (words : List PlacedWord) (values : List ℕ) → 0 < length values → values_from named_code 1 words ≡ Ok values
    → values_of named_code Empty words ≡ Ok values
values_of_some [] values some read = let same : [] ≡ values = cc in absurd (omega (arith, ap length same))
values_of_some (word ∷ words) values some read = read

pub reads_back : ListingsReadBack
reads_back code is_code =
    let lines = has_lines 1 1 1 code is_code.2 (omega arith) in
    rw lines.written (values_of_some (words_from 1 (concat lines.lines)) code (omega arith) lines.read)
