-- A soup file of one creature at 0 and of nothing else has the setup that `grow` makes of the listing.
use Rattle.std.proofs.Common.{◌≡◌, ◌∙◌, ℕ, ◌+◌, ◌-◌, ◌≤◌, Bool, true, false, cond, List, [], ◌∷◌, Some, None, Result, Ok, Err, ap, arith, length, ltb, map}
use Rattle.std.proofs.Common.{option_map, refl, subst, sym}
use Rattle.std.specs.Prelude.{pos}
use Rattle.std.specs.List.{enumerate_from}
use Rattle.std.specs.Result.{result_err}
use Rattle.std.proofs.lemmas.Bool.Decides.{nat_tests}
use Rattle.toml.specs.Data.{Members, integer, member, no_members, string}
use Rattle.tierra_model.specs.declared.keys.TheConstants.{SOUP_SIZE}
use Rattle.tierra_model.specs.declared.limits.TheConstants.{MOST_SIZE}
use Rattle.tierra_model.specs.declared.setups.Inoculum.{Inoculum}
use Rattle.tierra_model.specs.Setups.{SetupFields, default_settings, setup_for}
use Rattle.tierra_asm.specs.Words.{PlacedWord, words_of}
use Rattle.tierra_asm.specs.Values.{after_value, all_or_first_error, values_from, values_of}
use Rattle.tierra_asm.specs.Listing.{listing_of, named_code}
use Rattle.tierra_asm.specs.declared.AsmFault.{AsmFault}
use Rattle.tierra_asm.specs.declared.AsmFault.TheVariants.{Empty, TooLong}
use Rattle.soup_file.specs.declared.key.Key.TheVariants.{At, Code}
use Rattle.soup_file.specs.Keys.{file_fault, first_fault, in_a_creature, name_of, names_one_of, number_in, read_at, unknown_in, unknown_key}
use Rattle.soup_file.specs.Settings.{AreSettingsOf, setting_checks, soup_size_of}
use Rattle.soup_file.specs.Creatures.{all_creature_checks, code_of, creature_tables, in_creature, inoculum_from, inoculum_of, own_checks, past_end, place_of}
use Rattle.soup_file.specs.Creatures.{text_of}
use Rattle.soup_file.specs.SoupFile.{IsDocument, IsSetupOf, IsSoupFile, top_keys}
use Rattle.soup_file.specs.Laws.{one_creature}
use Rattle.soup_file.proofs.Checks.{passed}
use Rattle.soup_file.proofs.InOrder.{passes-all}
use Rattle.soup_file.proofs.WholeFile.{creatures-checks}
use Rattle.soup_file.proofs.OneSetup.{one-setup}

-- ---- the code of a listing is not too long

after-length : (v most : ℕ) (rest : Result (List ℕ) AsmFault) (code : List ℕ) → ((xs : List ℕ) → rest ≡ Ok xs → length xs ≤ most)
    → after_value v rest ≡ Ok code → length code ≤ most + 1
after-length v most (Ok xs) code up e =
    let same : v ∷ xs ≡ code = cc in
    let few = up xs refl in
    subst (λ ys. length ys ≤ most + 1) same (omega arith)
after-length v most (Err f) code up e = absurd cc

head-length : (r : Result ℕ AsmFault) (rs : List (Result ℕ AsmFault)) (most : ℕ) (code : List ℕ)
    → ((xs : List ℕ) → all_or_first_error rs ≡ Ok xs → length xs ≤ most)
    → all_or_first_error (r ∷ rs) ≡ Ok code → length code ≤ most + 1
head-length (Ok v) rs most code up e = after-length v most (all_or_first_error rs) code up e
head-length (Err f) rs most code up e = absurd cc

no-error : (r : Result ℕ AsmFault) (rs : List (Result ℕ AsmFault)) (code : List ℕ) (f : AsmFault) → r ≡ Err f → all_or_first_error (r ∷ rs) ≡ Ok code → ⊥
no-error (Ok v) rs code f is e = absurd cc
no-error (Err g) rs code f is e = absurd cc

refused : (b : Bool) (word : PlacedWord) (other : Result ℕ AsmFault) → b ≡ true → cond b (Err (TooLong word.line)) other ≡ Err (TooLong word.line)
refused b word other h = ap (λ x. cond x (Err (TooLong word.line)) other) h

-- the word of this number was not refused for it
not-too-many : (words : List PlacedWord) (word : PlacedWord) (first : ℕ) (code : List ℕ) → values_from named_code first (word ∷ words) ≡ Ok code
    → first ≤ MOST_SIZE
not-too-many words word first code e =
    elim (ltb MOST_SIZE first) as (λ b. ltb MOST_SIZE first ≡ b → first ≤ MOST_SIZE) [
      | true ↦ λ h. absurd
          (no-error (named_code (first, word)) (map named_code (enumerate_from (first + 1) words)) code (TooLong word.line)
          (refused (ltb MOST_SIZE first) word _ h) e)
      | false ↦ λ h. grind (arith, nat_tests)
    ] refl

named-length : (words : List PlacedWord) (first : ℕ) (code : List ℕ) → first ≤ MOST_SIZE + 1 → values_from named_code first words ≡ Ok code
    → length code + first ≤ MOST_SIZE + 1
named-length [] first code l e =
    let none : [] ≡ code = cc in
    subst (λ (xs : List ℕ). length xs + first ≤ MOST_SIZE + 1) none (omega arith)
named-length (word ∷ words) first code l e =
    let few = not-too-many words word first code e in
    let up = head-length (named_code (first, word)) (map named_code (enumerate_from (first + 1) words)) (MOST_SIZE - first) code
    (λ xs f. (let rest = named-length words (first + 1) xs (omega arith) f in omega arith)) e in
    omega arith

words-length : (words : List PlacedWord) (code : List ℕ) → values_of named_code Empty words ≡ Ok code → length code ≤ MOST_SIZE
words-length [] code e = absurd cc
words-length (word ∷ words) code e = let few = named-length (word ∷ words) 1 code (omega arith) e in omega arith

-- ---- the checks of the creature

-- its table
abbrev own_table : List ℕ → Members
own_table text = member (name_of At) (integer (pos 0)) (member (name_of Code) (string text) no_members)

abbrev placed_code : List ℕ → Inoculum
placed_code code = record { at = 0; code = code }

code-is : (text code : List ℕ) → listing_of text ≡ Ok code → code_of 1 (own_table text) ≡ Ok code
unfolding code_of text_of read_at name_of
code-is text code e = ap (in_creature 1) e

inoculum-is : (text code : List ℕ) → listing_of text ≡ Ok code → inoculum_of SOUP_SIZE.default (1, own_table text) ≡ Some (placed_code code)
unfolding inoculum_of place_of read_at name_of number_in
inoculum-is text code e = ap (inoculum_from (Ok 0)) (code-is text code e)

fits : (code : List ℕ) → length code ≤ MOST_SIZE → past_end SOUP_SIZE.default (Some (placed_code code)) ≡ None
fits code few =
    let inside : ltb SOUP_SIZE.default (0 + length code) ≡ false = grind (arith, nat_tests) in
    rw inside refl

known-there : (text : List ℕ) → unknown_key in_a_creature (At ∷ Code ∷ []) (own_table text) ≡ None
unfolding unknown_in names_one_of name_of
known-there text = refl

placed-there : (text : List ℕ) → option_map file_fault (result_err (place_of SOUP_SIZE.default (own_table text))) ≡ None
unfolding place_of read_at name_of number_in
placed-there text = refl

own-passes : (text code : List ℕ) → listing_of text ≡ Ok code → first_fault (own_checks SOUP_SIZE.default (1, own_table text)) ≡ None
unfolding own_checks
own-passes text code e =
    let size = SOUP_SIZE.default in
    let t = own_table text in
    let last = past_end size (inoculum_of size (1, t)) in
    let listing = result_err (code_of 1 t) in
    passed (unknown_key in_a_creature (At ∷ Code ∷ []) t) (option_map file_fault (result_err (place_of size t)) ∷ listing ∷ last ∷ []) (known-there text)
    ∙ passed (option_map file_fault (result_err (place_of size t))) (listing ∷ last ∷ []) (placed-there text)
    ∙ passed listing (last ∷ []) (ap result_err (code-is text code e))
    ∙ passed last [] (ap (past_end size) (inoculum-is text code e) ∙ fits code (words-length (words_of text) code e))

-- ---- the whole document

top-known : (text : List ℕ) → unknown_key [] top_keys (one_creature text) ≡ None
unfolding unknown_in names_one_of name_of
top-known text = refl

settings-pass : (text : List ℕ) → first_fault (setting_checks (one_creature text)) ≡ None
unfolding setting_checks read_at name_of
settings-pass text = refl

size-is : (text : List ℕ) → soup_size_of (one_creature text) ≡ Ok SOUP_SIZE.default
unfolding read_at name_of
size-is text = refl

tables-are : (text : List ℕ) → creature_tables (one_creature text) ≡ Ok (own_table text ∷ [])
unfolding creature_tables read_at name_of
tables-are text = refl

settings-are : (text : List ℕ) → AreSettingsOf (one_creature text) default_settings
unfolding read_at name_of
settings-are text =
    record {
      soup_size = refl;
      slice_size = refl;
      slice_by_size = refl;
      slice_num = refl;
      slice_den = refl;
      search_limit = refl;
      min_template = refl;
      min_cell = refl;
      max_cell = refl;
      mal_mult = refl;
      fill_percent = refl;
      move_percent = refl;
      save_at = refl;
      back_rate = refl;
      copy_rate = refl;
      flaw_rate = refl;
      seed = refl;
      dist_every = refl;
      dist_percent = refl;
    }

one-passes : (text code : List ℕ) → listing_of text ≡ Ok code → first_fault (all_creature_checks SOUP_SIZE.default (own_table text ∷ [])) ≡ None
unfolding own_checks
one-passes text code e =
    passes-all SOUP_SIZE.default 1 [] (own_table text) (placed_code code) (own-passes text code e) (inoculum-is text code e) refl

setup-is : (text code : List ℕ) → listing_of text ≡ Ok code → IsSetupOf (one_creature text) (setup_for code)
setup-is text code e =
    record {
      creatures = own_table text ∷ [];
      passes = creatures-checks (one_creature text) SOUP_SIZE.default (own_table text ∷ []) (top-known text) (settings-pass text) (size-is text)
          (tables-are text)
          ∙ one-passes text code e;
      settings = settings-are text;
      tables = tables-are text;
      inocula = ap (λ c. c ∷ []) (sym (inoculum-is text code e));
    }

pub is-grown : (bytes text code : List ℕ) → IsDocument bytes (one_creature text) → listing_of text ≡ Ok code → IsSoupFile bytes (setup_for code)
is-grown bytes text code document e = (one_creature text, document, setup-is text code e)

pub is-alone : (bytes text code : List ℕ) (setup : SetupFields) → IsDocument bytes (one_creature text) → listing_of text ≡ Ok code
    → IsSoupFile bytes setup → setup ≡ setup_for code
is-alone bytes text code setup document e s = one-setup bytes setup (setup_for code) s (is-grown bytes text code document e)
