-- The first fault of some checks.
use Rattle.std.proofs.Common.{◌≡◌, ◌∙◌, ℕ, zero, suc, ◌+◌, ◌<◌, List, [], ◌∷◌, ◌++◌, Option, Some, None, ap, append-nil, get_or, length, map, option_map, refl}
use Rattle.std.proofs.Common.{sym, take, arith}
use Rattle.std.specs.Prelude.{flat_map}
use Rattle.std.proofs.lemmas.List.{take_more}
use Rattle.std.proofs.lemmas.Grind.{flat_map-append}
use Rattle.soup_file.specs.Keys.{first_fault}

pub passed : {F : Type 0} (check : Option F) (checks : List (Option F)) → check ≡ None → first_fault (check ∷ checks) ≡ first_fault checks
passed None checks e = refl
passed (Some f) checks e = cc

pub failed : {F : Type 0} (check : Option F) (checks : List (Option F)) (f : F) → check ≡ Some f → first_fault (check ∷ checks) ≡ Some f
failed None checks f e = cc
failed (Some g) checks f e = e

pub passed-append : {F : Type 0} (before after : List (Option F)) → first_fault before ≡ None → first_fault (before ++ after) ≡ first_fault after
passed-append [] after e = refl
passed-append (None ∷ before) after e = passed-append before after e
passed-append (Some f ∷ before) after e = cc

pub failed-append : {F : Type 0} (before after : List (Option F)) (f : F) → first_fault before ≡ Some f → first_fault (before ++ after) ≡ Some f
failed-append [] after f e = cc
failed-append (None ∷ before) after f e = failed-append before after f e
failed-append (Some g ∷ before) after f e = e

pub first_fault-map : {F G : Type 0} (g : F → G) (checks : List (Option F)) → first_fault (map (option_map g) checks) ≡ option_map g (first_fault checks)
first_fault-map g [] = refl
first_fault-map g (None ∷ checks) = first_fault-map g checks
first_fault-map g (Some f ∷ checks) = refl

-- what stands before the first fault has none
none-left : {F : Type 0} (before after : List (Option F)) → first_fault (before ++ after) ≡ None → first_fault before ≡ None
none-left [] after e = refl
none-left (None ∷ before) after e = none-left before after e
none-left (Some f ∷ before) after e = e

-- the checks of each of a list, and of the first i of them
pub failed-at : {X F : Type 0} (checks : X → List (Option F)) (xs : List X) (i : ℕ) (x : X) (f : F) → i < length xs → x ≡ get_or xs i x
    → first_fault (flat_map checks (take i xs)) ≡ None → first_fault (checks x) ≡ Some f → first_fault (flat_map checks xs) ≡ Some f
failed-at checks [] i x f l e none fault = absurd (omega arith)
failed-at checks (y ∷ xs) zero x f l e none fault =
    failed-append (checks y) (flat_map checks xs) f (ap (λ z. first_fault (checks z)) (sym e) ∙ fault)
failed-at checks (y ∷ xs) (suc i) x f l e none fault =
    let first = none-left (checks y) (flat_map checks (take i xs)) none in
    passed-append (checks y) (flat_map checks xs) first
    ∙ failed-at checks xs i x f (omega arith) e (sym (passed-append (checks y) (flat_map checks (take i xs)) first) ∙ none) fault

pub none-more : {X F : Type 0} (checks : X → List (Option F)) (xs : List X) (i : ℕ) (x : X) → i < length xs → x ≡ get_or xs i x
    → first_fault (flat_map checks (take i xs)) ≡ None → first_fault (checks x) ≡ None → first_fault (flat_map checks (take (i + 1) xs)) ≡ None
none-more checks xs i x l e none here =
    ap (λ ys. first_fault (flat_map checks ys)) (take_more xs i x l ∙ ap (λ y. take i xs ++ y ∷ []) (sym e))
    ∙ ap first_fault (flat_map-append checks (take i xs) (x ∷ []))
    ∙ passed-append (flat_map checks (take i xs)) (checks x ++ []) none
    ∙ ap first_fault (append-nil (checks x))
    ∙ here
