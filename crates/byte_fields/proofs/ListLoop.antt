-- Reading n of a field one after the other, as a loop does.
use Rattle.std.proofs.Common.{◌≡◌, ℕ, suc, ◌-◌, ◌+◌, ◌≤◌, ◌<◌, List, [], ◌∷◌, ◌++◌, Option, Some, None, refl, sym, ap, ◌∙◌, append_assoc, append-nil, arith}
use Rattle.byte_fields.specs.declared.stop.Stop.{Stop}
use Rattle.byte_fields.specs.declared.stop.Stop.TheVariants as stop
use Rattle.byte_fields.specs.Reading.{◌>>=◌, Stops, list_at}

-- what was read before, and what is still read
abbrev pub with_front : {X : Type 0} → List X → Option (List X × List ℕ) → Option (List X × List ℕ)
with_front front read = read >>= λ x. Some (front ++ x.0, x.1)

regroup : {X : Type 0} (front : List X) (s : X) (read : Option (List X × List ℕ))
    → with_front front (read >>= λ x. Some (s ∷ x.0, x.1)) ≡ with_front (front ++ s ∷ []) read
regroup {X = X} front s (Some x) = ap (λ (ss : List X). Some (ss, x.1)) (simp append_assoc)
regroup front s None = refl

pub goes_on : {X : Type 0} (field : List ℕ → Option (X × List ℕ)) (front : List X) (count i : ℕ) (bytes : List ℕ) (s : X)
    (after : List ℕ) (whole : Option (List X × List ℕ)) → i < count → field bytes ≡ Some (s, after)
    → with_front front (list_at field (count - i) bytes) ≡ whole
    → with_front (front ++ s ∷ []) (list_at field (count - (i + 1)) after) ≡ whole
unfolding list_at
goes_on field front count i bytes s after whole lt read so_far =
    let left : count - i ≡ suc (count - (i + 1)) = omega arith in
    let one : with_front front (list_at field (count - i) bytes) ≡ with_front (front ++ s ∷ []) (list_at field (count - (i + 1)) after) =
    rw (left, read) (regroup front s (list_at field (count - (i + 1)) after)) in
    sym one ∙ so_far

pub stops : {X : Type 0} (e : Stop) (field : List ℕ → Option (X × List ℕ)) (front : List X) (count i : ℕ) (bytes : List ℕ)
    (whole : Option (List X × List ℕ)) → i < count → Stops e (field bytes)
    → with_front front (list_at field (count - i) bytes) ≡ whole → Stops e whole
unfolding list_at
stops stop.NoMemory field front count i bytes whole lt read so_far = tt
stops stop.Malformed field front count i bytes whole lt read so_far =
    let left : count - i ≡ suc (count - (i + 1)) = omega arith in
    let one : with_front front (list_at field (count - i) bytes) ≡ None = rw (left, read) refl in
    sym so_far ∙ one

pub is_done : {X : Type 0} (field : List ℕ → Option (X × List ℕ)) (front : List X) (count i : ℕ) (bytes : List ℕ)
    (whole : Option (List X × List ℕ)) → count ≤ i → with_front front (list_at field (count - i) bytes) ≡ whole
    → whole ≡ Some (front, bytes)
unfolding list_at
is_done {X = X} field front count i bytes whole le so_far =
    let left : count - i ≡ 0 = omega arith in
    let one : with_front front (list_at field (count - i) bytes) ≡ Some (front, bytes) =
    rw left (ap (λ (ss : List X). Some (ss, bytes)) (append-nil front)) in
    sym so_far ∙ one
