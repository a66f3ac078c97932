-- The keys of a table, and the least that is not known.
use Rattle.std.proofs.Common.{◌≡◌, ◌∙◌, ℕ, Bool, true, false, cond, not, List, [], ◌∷◌, ◌++◌, Option, Some, None, option_map, String, Global, string_bytes}
use Rattle.std.proofs.Common.{string_cmp, Less, Equal, Greater, nat_cmp, refl, ap, sym}
use Rattle.std.specs.Prelude.{filter, find}
use Rattle.std.specs.Cmp.Lexicographic.{slice_cmp}
use Rattle.std.specs.List.{AllByRecursion}
use Rattle.std.specs.List.Sorted.{IsStrictlySortedBy}
use Rattle.std.specs.Map.{keys_of as map_keys}
use Rattle.std.specs.Ordering.{is_lt}
use Rattle.toml.specs.View.{members_view}
use Rattle.toml.proofs.Views.{Entry}
use Rattle.soup_file.specs.declared.fault.FileFault.TheVariants.{UnknownKey}
use Rattle.soup_file.specs.declared.key.Key.{Key}
use Rattle.soup_file.specs.Keys.{keys_of, least, lesser, names_one_of, unknown_in, unknown_key}

-- the name comes before the other, if there is one
Before : List ℕ → Option (List ℕ) → Type 0
Before name None = Unit {0}
Before name (Some other) = slice_cmp nat_cmp name other ≡ Less

kept : (name : List ℕ) (other : Option (List ℕ)) → Before name other → lesser name other ≡ name
unfolding Before
kept name None h = refl
kept name (Some other) h = rw h

before-lesser : (name first : List ℕ) (rest : Option (List ℕ)) → slice_cmp nat_cmp name first ≡ Less → Before name rest → Before name (Some (lesser first rest))
unfolding Before
before-lesser name first None h k = h
before-lesser name first (Some other) h k = elim (slice_cmp nat_cmp first other) as (λ o. slice_cmp nat_cmp name (cond (is_lt o) first other) ≡ Less) [
  | Less ↦ h
  | Equal ↦ k
  | Greater ↦ k
]

-- the names of the later entries, which pass the test
before-rest : (test : List ℕ → Bool) (k : String Global) (es : List Entry) → AllByRecursion (λ y. string_cmp k y ≡ Less) (map_keys es)
    → Before (string_bytes k) (least (filter test (keys_of (members_view es))))
unfolding Before
before-rest test k [] h = tt
before-rest test k (e ∷ es) h =
    elim (test (string_bytes e.0)) as (λ b. Before (string_bytes k)
    (least (cond b (string_bytes e.0 ∷ filter test (keys_of (members_view es))) (filter test (keys_of (members_view es)))))) [
      | true ↦ before-lesser (string_bytes k) (string_bytes e.0) (least (filter test (keys_of (members_view es)))) h.0 (before-rest test k es h.1)
      | false ↦ before-rest test k es h.1
    ]

least-first : (test : List ℕ → Bool) (es : List Entry) → IsStrictlySortedBy string_cmp (map_keys es)
    → least (filter test (keys_of (members_view es))) ≡ option_map string_bytes (find (λ k. test (string_bytes k)) (map_keys es))
unfolding IsStrictlySortedBy
least-first test [] h = refl
least-first test (e ∷ es) h =
    elim (test (string_bytes e.0)) as
    (λ b. least (cond b (string_bytes e.0 ∷ filter test (keys_of (members_view es))) (filter test (keys_of (members_view es))))
    ≡ option_map string_bytes (cond b (Some e.0) (find (λ k. test (string_bytes k)) (map_keys es)))) [
      | true ↦ ap Some (kept (string_bytes e.0) (least (filter test (keys_of (members_view es)))) (before-rest test e.0 es h.0))
      | false ↦ least-first test es h.1
    ]

unknown-keys : (keys : List Key) (es : List Entry) → IsStrictlySortedBy string_cmp (map_keys es)
    → unknown_in keys (members_view es) ≡ option_map string_bytes (find (λ name. not (names_one_of keys (string_bytes name))) (map_keys es))
unfolding unknown_in
unknown-keys keys es h = least-first (λ name. not (names_one_of keys name)) es h

pub no_unknown : (before : List ℕ) (keys : List Key) (es : List Entry) → IsStrictlySortedBy string_cmp (map_keys es)
    → None ≡ find (λ name. not (names_one_of keys (string_bytes name))) (map_keys es) → unknown_key before keys (members_view es) ≡ None
no_unknown before keys es h e =
    ap (option_map (λ name. UnknownKey (before ++ name))) (unknown-keys keys es h ∙ ap (option_map string_bytes) (sym e))

pub some_unknown : (before name : List ℕ) (keys : List Key) (es : List Entry) (k : String Global) → IsStrictlySortedBy string_cmp (map_keys es)
    → Some k ≡ find (λ name. not (names_one_of keys (string_bytes name))) (map_keys es) → name ≡ before ++ string_bytes k
    → unknown_key before keys (members_view es) ≡ Some (UnknownKey name)
some_unknown before name keys es k h e same =
    ap (option_map (λ name. UnknownKey (before ++ name))) (unknown-keys keys es h ∙ ap (option_map string_bytes) (sym e))
    ∙ ap (λ text. Some (UnknownKey text)) (sym same)
