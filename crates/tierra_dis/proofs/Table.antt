-- The table of names, each way.
use Rattle.std.proofs.Common.{◌≡◌, ℕ, ◌<◌, Bool, true, false, ◌&&◌, not, List, Option, Some, None, eqb, length, slice_get, get_or, refl, sym, ap, ◌∙◌, arith}
use Rattle.std.proofs.Common.{zero-add}
use Rattle.std.specs.Prelude.{All, nat_lt}
use Rattle.std.specs.List.{enumerate_from, list_all}
use Rattle.std.proofs.lemmas.Bool.{and_parts}
use Rattle.std.proofs.lemmas.Bool.Decides.{nat_tests}
use Rattle.std.proofs.lemmas.List.Elements.{All-weaker}
use Rattle.std.proofs.lemmas.List.FromFn.{get_or-enumerate_from}
use Rattle.std.proofs.lemmas.List.Sums.{AllPass-from_list_all}
use Rattle.std.proofs.lemmas.Option.{get_or_from_slice_get, slice_get_within}
use Rattle.tierra_model.specs.Table.{ops}
use Rattle.tierra_model.specs.declared.ops.Op.{Op}
use Rattle.soup_ops.specs.Names.{name_of, code_of}
use Rattle.tierra_asm.specs.Words.{ends_word}

-- whether the code is this one
abbrev is_code : ℕ → Option ℕ → Bool
is_code code None = false
is_code code (Some other) = eqb other code

is_code_same : (code : ℕ) (o : Option ℕ) → is_code code o ≡ true → o ≡ Some code
is_code_same code None same = absurd cc
is_code_same code (Some other) same = let is : other ≡ code = grind (arith, nat_tests) in ap Some is

-- whether a name is a word that stands for this code
abbrev stands_for : ℕ → List ℕ → Bool
stands_for code name = nat_lt 0 (length name) && list_all (λ b. not (ends_word b)) name && is_code code (code_of name)

-- each name of the table is one that stands for its place
abbrev is_named : ℕ × Op → Bool
is_named (code, op) = stands_for code (name_of op)

names_stand : list_all is_named (enumerate_from 0 ops) ≡ true
names_stand = refl

inside_word : (b : ℕ) → not (ends_word b) ≡ true → ends_word b ≡ false
inside_word b inside = grind (arith, nat_tests)

-- what the test says
pub record IsNamed (code : ℕ) (name : List ℕ) : Type 0 where
  pub some : 0 < length name
  pub word : All (λ b. ends_word b ≡ false) name
  pub stands : code_of name ≡ Some code

IsNamed-from_test : (code : ℕ) (name : List ℕ) → stands_for code name ≡ true → IsNamed code name
IsNamed-from_test code name stands =
    let parts = and_parts (nat_lt 0 (length name) && list_all (λ b. not (ends_word b)) name) (is_code code (code_of name)) stands in
    let word = and_parts (nat_lt 0 (length name)) (list_all (λ b. not (ends_word b)) name) parts.0 in
    let counts = word.0 in
    record {
      some = grind (arith, nat_tests, counts);
      word = All-weaker (λ b. not (ends_word b) ≡ true) (λ b. ends_word b ≡ false) inside_word name
          (AllPass-from_list_all (λ b. not (ends_word b)) name word.1);
      stands = is_code_same code (code_of name) parts.1;
    }

pub name_back : (code : ℕ) (op : Op) → slice_get ops code ≡ Some op → IsNamed code (name_of op)
name_back code op there =
    let within = slice_get_within ops code op there in
    let row = get_or-enumerate_from 0 ops code (0, op) within in
    let same : get_or (enumerate_from 0 ops) code (0, op) ≡ (code, op) = row ∙ (λ i. (zero-add code i, get_or_from_slice_get ops code op op there i)) in
    IsNamed-from_test code (name_of op) (ap is_named (sym same) ∙ AllPass-from_list_all is_named (enumerate_from 0 ops) names_stand code (0, op) within)
