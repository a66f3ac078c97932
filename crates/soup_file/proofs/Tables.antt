-- Items that are tables, one after another.
use Rattle.std.proofs.Common.{◌≡◌, ◌∙◌, ℕ, zero, suc, ◌<◌, List, [], ◌∷◌, ◌++◌, Option, Some, None, Ok, Err, ap, get_or, length, refl, sym, arith}
use Rattle.std.proofs.lemmas.List.{length-map}
use Rattle.toml.specs.Data.{as_table, Members}
use Rattle.toml.specs.View.{items_view, view}
use Rattle.toml.specs.declared.value.Value.{Value}
use Rattle.soup_file.specs.declared.fault.FileFault.TheVariants.{NoCreature}
use Rattle.soup_file.specs.Creatures.{and_tables, some_tables, tables_of}

and_none : (first : Option Members) → and_tables first None ≡ None
and_none None = refl
and_none (Some t) = refl

-- one that is no table
pub tables_of-none : (vs : List Value) (i : ℕ) (v : Value) → i < length vs → v ≡ get_or vs i v → as_table (view v) ≡ None → tables_of (items_view vs) ≡ None
tables_of-none [] i v l e none = absurd (omega arith)
tables_of-none (w ∷ vs) zero v l e none = ap (λ x. and_tables (as_table (view x)) (tables_of (items_view vs)))
    (sym e) ∙ ap (λ t. and_tables t (tables_of (items_view vs))) none
tables_of-none (w ∷ vs) (suc i) v l e none =
    ap (and_tables (as_table (view w))) (tables_of-none vs i v (omega arith) e none) ∙ and_none (as_table (view w))

and_push : (first : Option Members) (rest more : Option (List Members)) (t : Members) (ts : List Members)
    → ((us : List Members) → rest ≡ Some us → more ≡ Some (us ++ t ∷ [])) → and_tables first rest ≡ Some ts → and_tables first more ≡ Some (ts ++ t ∷ [])
and_push None rest more t ts up e = cc
and_push (Some u) None more t ts up e = cc
and_push (Some u) (Some us) more t ts up e =
    ap (and_tables (Some u)) (up us refl) ∙ (let same : u ∷ us ≡ ts = cc in ap (λ xs. Some (xs ++ t ∷ [])) same)

-- one more table at the end
pub tables_of-push : (vs : List Value) (v : Value) (ts : List Members) (t : Members) → tables_of (items_view vs) ≡ Some ts → as_table (view v) ≡ Some t
    → tables_of (items_view (vs ++ v ∷ [])) ≡ Some (ts ++ t ∷ [])
tables_of-push [] v ts t e is =
    ap (λ x. and_tables x (Some [])) is ∙ (let none : [] ≡ ts = cc in ap (λ xs. Some (xs ++ t ∷ [])) none)
tables_of-push (w ∷ vs) v ts t e is =
    and_push (as_table (view w)) (tables_of (items_view vs)) (tables_of (items_view (vs ++ v ∷ []))) t ts (λ us f. tables_of-push vs v us t f is) e

pub some_tables_there : (ts : List Members) → 0 < length ts → some_tables (Some ts) ≡ Ok ts
some_tables_there [] h = absurd (omega arith)
some_tables_there (t ∷ ts) h = refl

pub some_tables_none : (ts : List Members) → length ts ≡ 0 → some_tables (Some ts) ≡ Err NoCreature
some_tables_none [] h = refl
some_tables_none (t ∷ ts) h = absurd (omega arith)

pub ruleset some_tables_are = (some_tables_there, some_tables_none, length-map)
