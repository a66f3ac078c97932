-- The setups of the worked examples.
use Rattle.std.proofs.Common.{◌≡◌, ℕ, ◌+◌, ◌<◌, ◌≤◌, lit≤, Bool, true, List, [], ◌∷◌, arith}
use Rattle.std.specs.Prelude.{All, nat_le, nat_lt, ◌&&◌, slice_set, length}
use Rattle.std.proofs.lemmas.Bool.{and_parts, leb-true, ltb-true}
use Rattle.std.proofs.lemmas.Bool.Decides.{nat_tests}
use Rattle.std.proofs.lemmas.List.Elements.{All-nil, All-cons}
use Rattle.tierra_model.specs.declared.limits.TheConstants.{MOST_CELLS, MOST_SIZE}
use Rattle.tierra_model.specs.declared.parameters.Settings.{Settings}
use Rattle.tierra_model.specs.declared.setups.Inoculum.{Inoculum}
use Rattle.tierra_model.specs.Counting.{one_if, sum_of}
use Rattle.tierra_model.specs.Ranges.{IsCode}
use Rattle.tierra_model.specs.Blocks.{is_in}
use Rattle.tierra_model.specs.Setups.{SetupFields, IsSetup, block_of, default_settings}

-- the default settings, in a soup of n cells
abbrev pub soup_of : (n : ℕ) → (100 ≤ n) × (n ≤ MOST_CELLS) → Settings
soup_of n range = record default_settings { soup_size = n; soup = range }

abbrev pub hundred : Settings
hundred = soup_of 100 (lit≤ tt, lit≤ tt)

-- creature 1 at 0 `inc_b mov_iab`, creature 2 at 90 five nop_1
abbrev pub two : SetupFields
two =
    record {
      settings = hundred;
      creatures = record { at = 0; code = 9 ∷ 26 ∷ [] } ∷ record { at = 90; code = 1 ∷ 1 ∷ 1 ∷ 1 ∷ 1 ∷ [] } ∷ [];
    }

-- where one individual is enough, the start saves
abbrev pub soon : SetupFields
soon = record two { settings = record hundred { save_at = 1; saving = (lit≤ tt, lit≤ tt) } }

-- creature 1 asks for 64 cells, for which creature 2 at 50 has to die
abbrev pub asks : SetupFields
asks =
    record {
      settings = record hundred { mal_mult = 100; mult = (lit≤ tt, lit≤ tt) };
      creatures = record { at = 0; code = 4 ∷ 2 ∷ 3 ∷ 3 ∷ 3 ∷ 3 ∷ 3 ∷ 3 ∷ 30 ∷ 0 ∷ [] }
          ∷ record { at = 50; code = 1 ∷ 1 ∷ 1 ∷ 1 ∷ 1 ∷ 1 ∷ 1 ∷ 1 ∷ 1 ∷ 1 ∷ [] } ∷ [];
    }

-- creature 1 at 50 asks for 64 cells, which never fit before or behind it
abbrev pub cramped : SetupFields
cramped =
    record {
      settings = record hundred { slice_size = 9; slice = (lit≤ tt, lit≤ tt); mal_mult = 100; mult = (lit≤ tt, lit≤ tt) };
      creatures = record { at = 50; code = 4 ∷ 2 ∷ 3 ∷ 3 ∷ 3 ∷ 3 ∷ 3 ∷ 3 ∷ 30 ∷ 0 ∷ [] }
          ∷ record { at = 0; code = 1 ∷ 1 ∷ 1 ∷ 1 ∷ 1 ∷ 1 ∷ 1 ∷ 1 ∷ 1 ∷ 1 ∷ [] } ∷ [];
    }

-- a creature in a soup of 100 cells
abbrev pub one : Settings → ℕ → List ℕ → SetupFields
one settings at code = record { settings = settings; creatures = record { at = at; code = code } ∷ [] }

-- `inc_a`, `inc_b`, `inc_c` and `dec_c`, of whom half die in quantum 2
abbrev pub four : SetupFields
four =
    record {
      settings = record hundred { dist_every = 2; dist_percent = 50; disturbing = (lit≤ tt, lit≤ tt) };
      creatures = record { at = 0; code = 8 ∷ [] } ∷ record { at = 10; code = 9 ∷ [] } ∷ record { at = 20; code = 11 ∷ [] } ∷ record {
        at = 30;
        code = 10 ∷ [];
      } ∷ [];
    }

-- the ancestor, of 80 cells
abbrev pub ancestor : List ℕ
ancestor =
    1 ∷ 1 ∷ 1 ∷ 1 ∷ 4 ∷ 2 ∷ 3 ∷ 3 ∷ 24 ∷ 28 ∷ 0 ∷ 0 ∷ 0 ∷ 0 ∷ 7 ∷ 25 ∷ 29 ∷ 0 ∷ 0 ∷ 0
    ∷ 1 ∷ 8 ∷ 6 ∷ 1 ∷ 1 ∷ 0 ∷ 1 ∷ 30 ∷ 22 ∷ 0 ∷ 0 ∷ 1 ∷ 1 ∷ 31 ∷ 20 ∷ 0 ∷ 0 ∷ 1 ∷ 0 ∷ 5
    ∷ 1 ∷ 1 ∷ 0 ∷ 0 ∷ 12 ∷ 13 ∷ 14 ∷ 1 ∷ 0 ∷ 1 ∷ 0 ∷ 26 ∷ 10 ∷ 5 ∷ 20 ∷ 0 ∷ 1 ∷ 0 ∷ 0 ∷ 8
    ∷ 9 ∷ 20 ∷ 0 ∷ 1 ∷ 0 ∷ 1 ∷ 5 ∷ 1 ∷ 0 ∷ 1 ∷ 1 ∷ 18 ∷ 17 ∷ 16 ∷ 23 ∷ 1 ∷ 1 ∷ 1 ∷ 0 ∷ 5 ∷ []

-- the ancestor alone in a soup of n cells
abbrev pub alone : (n : ℕ) → (100 ≤ n) × (n ≤ MOST_CELLS) → SetupFields
alone n range = record { settings = soup_of n range; creatures = record { at = 0; code = ancestor } ∷ [] }

-- the ancestor, saved at the third individual
abbrev pub late : SetupFields
late = record {
  settings = record (soup_of 1000 (lit≤ tt, lit≤ tt)) { save_at = 3; saving = (lit≤ tt, lit≤ tt) };
  creatures = record { at = 0; code = ancestor } ∷ [];
}

-- three ancestors in a small soup: the second ends with `inc_a`, the third with `dec_c`
abbrev pub three : SetupFields
three =
    record {
      settings = soup_of 3000 (lit≤ tt, lit≤ tt);
      creatures = record { at = 0; code = ancestor } ∷ record { at = 1000; code = slice_set ancestor 79 8 } ∷ record {
        at = 2000;
        code = slice_set ancestor 79 10;
      } ∷ [];
    }

-- ---- which are setups

abbrev are_codes : List ℕ → Bool
are_codes [] = true
are_codes (v ∷ vs) = nat_lt v 32 && are_codes vs

-- each has a code, and they stand one after another in the cells from k to n
abbrev pub stand_from : ℕ → ℕ → List Inoculum → Bool
stand_from n k [] = true
stand_from n k (c ∷ cs) =
    nat_le 1 (length c.code) && (nat_le (length c.code) MOST_SIZE && (are_codes c.code
    && (nat_le k c.at && (nat_le (c.at + length c.code) n && stand_from n (c.at + length c.code) cs))))

abbrev IsCell : ℕ → Type 0
IsCell v = v < 32

are_cells : (vs : List ℕ) → are_codes vs ≡ true → All IsCell vs
are_cells [] h = All-nil IsCell
are_cells (v ∷ vs) h = let p = and_parts _ _ h in All-cons IsCell v vs (ltb-true v 32 p.0) (are_cells vs p.1)

record Stands (n k : ℕ) (cs : List Inoculum) : Type 0 where
  written : All (λ c. IsCode c.code) cs
  placed : All (λ c. c.at + length c.code ≤ n) cs
  apart : (p : ℕ) → sum_of (λ c. one_if (is_in (block_of c) p)) cs ≤ one_if (nat_le k p)

stands : (n k : ℕ) (cs : List Inoculum) → stand_from n k cs ≡ true → Stands n k cs
stands n k [] h = record { written = All-nil _; placed = All-nil _; apart = λ p. omega arith }
stands n k (c ∷ cs) h =
    let a = and_parts _ _ h in
    let b = and_parts _ _ a.1 in
    let d = and_parts _ _ b.1 in
    let e = and_parts _ _ d.1 in
    let f = and_parts _ _ e.1 in
    let after = leb-true k c.at e.0 in
    let rest = stands n (c.at + length c.code) cs f.1 in
    record {
      written = All-cons (λ (x : Inoculum). IsCode x.code) c cs (leb-true _ _ a.0, leb-true _ _ b.0, are_cells c.code d.0) rest.written;
      placed = All-cons (λ (x : Inoculum). x.at + length x.code ≤ n) c cs (leb-true _ _ f.0) rest.placed;
      apart = λ p. (let r = rest.apart p in grind (arith, nat_tests));
    }

pub is_setup : (setup : SetupFields) → 0 < length setup.creatures → stand_from setup.settings.soup_size 0 setup.creatures ≡ true → IsSetup setup
is_setup setup some h =
    let s = stands setup.settings.soup_size 0 setup.creatures h in
    record { some = some; written = s.written; placed = s.placed; apart = λ p. (let a = s.apart p in grind (arith, nat_tests)) }
