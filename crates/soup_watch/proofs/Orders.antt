-- One more sight.
use Rattle.std.proofs.Common.{◌≡◌, ◌∙◌, ap, ◌<◌, ◌≤◌, ◌-◌, ◌++◌, ◌∷◌, List, [], ℕ, arith, length, refl, subst}
use Rattle.std.proofs.lemmas.List.{length_push}
use Rattle.std.proofs.lemmas.List.Sorted.{IsNonDecreasingBy-push}
use Rattle.std.proofs.lemmas.Option.{slice_get-get_or}
use Rattle.std.specs.Prelude.{IfSome, Option, Some, slice_get}
use Rattle.soup_watch.specs.declared.sight.Sight.{Sight}
use Rattle.soup_watch.specs.Seeing.{NeverFalls, last_of}

-- quanta still never fall
pub never_falls_added : (sights : List Sight) (s : Sight) → NeverFalls sights → IfSome (last_of sights) (λ last. last.quanta ≤ s.quanta)
    → NeverFalls (sights ++ s ∷ [])
never_falls_added sights s before order = IsNonDecreasingBy-push (λ (x : Sight). x.quanta) sights s before
    (λ d some.
    let within : length sights - 1 < length sights = omega (arith, some) in
    subst (λ (o : Option Sight). IfSome o (λ last. last.quanta ≤ s.quanta)) (slice_get-get_or sights (length sights - 1) d within) order)

at-end : (sights : List Sight) (s : Sight) → slice_get (sights ++ s ∷ []) (length sights) ≡ Some s
at-end [] s = refl
at-end (x ∷ xs) s = at-end xs s

-- it is the last one
pub last-added : (sights : List Sight) (s : Sight) → last_of (sights ++ s ∷ []) ≡ Some s
last-added sights s =
    let place : length (sights ++ s ∷ []) - 1 ≡ length sights = omega (arith, length_push sights s) in
    ap (λ (k : ℕ). slice_get (sights ++ s ∷ []) k) place ∙ at-end sights s
