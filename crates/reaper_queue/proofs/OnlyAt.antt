-- A test that one place of a list passes, and no other.
use Rattle.std.proofs.Common.{◌≡◌, ℕ, zero, suc, ◌<◌, ◌≤◌, List, [], ◌∷◌, length, get_or, set, refl, ap, arith, remove, Bool, true, false, cond}
use Rattle.std.proofs.lemmas.Bool.Decides.{nat_tests}
use Rattle.std.specs.Prelude.{filter, map, not}
use Rattle.tierra_model.specs.Counting.{times_in}
use Rattle.reaper_queue.specs.Reaper.{ids_of, is_of}

-- no element passes
abbrev pub NonePass : {X : Type 0} → (X → Bool) → List X → Type 0
NonePass p [] = Unit {0}
NonePass p (x ∷ xs) = (p x ≡ false) × NonePass p xs

-- the element at the place passes, and no other
abbrev pub OnlyAt : {X : Type 0} → (X → Bool) → ℕ → List X → Type 0
OnlyAt p k [] = ⊥
OnlyAt p zero (x ∷ xs) = (p x ≡ true) × NonePass p xs
OnlyAt p (suc k) (x ∷ xs) = (p x ≡ false) × OnlyAt p k xs

-- ---- in a queue in which nobody stands twice, a creature stands at its place alone

none_of : (id : ℕ) (xs : List (ℕ × ℕ)) → times_in (ids_of xs) id ≡ 0 → NonePass (is_of id) xs
none_of id [] h = tt
none_of id (x ∷ xs) h = (grind (arith, nat_tests), none_of id xs (omega arith))

times_at : (id : ℕ) (k : ℕ) (xs : List (ℕ × ℕ)) → k < length xs → (get_or xs k (0, 0)).0 ≡ id → 0 < times_in (ids_of xs) id
times_at id k [] h here = absurd (omega arith)
times_at id zero (x ∷ xs) h here = grind (arith, nat_tests)
times_at id (suc k) (x ∷ xs) h here = omega (arith, times_at id k xs (omega arith) here)

pub only_of : (id : ℕ) (k : ℕ) (xs : List (ℕ × ℕ)) → times_in (ids_of xs) id ≤ 1 → k < length xs → (get_or xs k (0, 0)).0 ≡ id
    → OnlyAt (is_of id) k xs
only_of id k [] once h here = absurd (omega arith)
only_of id zero (x ∷ xs) once h here =
    let his : is_of id x ≡ true = grind (arith, nat_tests) in
    (his, none_of id xs (grind (arith, nat_tests)))
only_of id (suc k) (x ∷ xs) once h here =
    let there : 0 < times_in (ids_of xs) id = times_at id k xs (omega arith) here in
    let other : is_of id x ≡ false = grind (arith, nat_tests) in
    (other, only_of id k xs (omega arith) (omega arith) here)

-- ---- what is done at the place

pub map-none : {X : Type 0} (p : X → Bool) (f : X → X) (xs : List X) → NonePass p xs → map (λ x. cond (p x) (f x) x) xs ≡ xs
map-none p f [] h = refl
map-none p f (x ∷ xs) h = rw h.0 (ap (λ (l : List _). x ∷ l) (map-none p f xs h.1))

pub map-only : {X : Type 0} (p : X → Bool) (f : X → X) (k : ℕ) (d : X) (xs : List X) → OnlyAt p k xs
    → map (λ x. cond (p x) (f x) x) xs ≡ set xs k (f (get_or xs k d))
map-only p f k d [] h = absurd h
map-only p f zero d (x ∷ xs) h = rw h.0 (ap (λ (l : List _). f x ∷ l) (map-none p f xs h.1))
map-only p f (suc k) d (x ∷ xs) h = rw h.0 (ap (λ (l : List _). x ∷ l) (map-only p f k d xs h.1))

filter-none : {X : Type 0} (p : X → Bool) (xs : List X) → NonePass p xs → filter (λ x. not (p x)) xs ≡ xs
filter-none p [] h = refl
filter-none p (x ∷ xs) h = rw h.0 (ap (λ (l : List _). x ∷ l) (filter-none p xs h.1))

pub filter-only : {X : Type 0} (p : X → Bool) (k : ℕ) (xs : List X) → OnlyAt p k xs → filter (λ x. not (p x)) xs ≡ remove xs k
filter-only p k [] h = absurd h
filter-only p zero (x ∷ xs) h = rw h.0 (filter-none p xs h.1)
filter-only p (suc k) (x ∷ xs) h = rw h.0 (ap (λ (l : List _). x ∷ l) (filter-only p k xs h.1))
