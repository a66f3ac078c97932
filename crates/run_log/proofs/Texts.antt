-- The text of a curve, one line after another.
use Rattle.std.proofs.Common.{◌≡◌, ◌≤◌, ◌<◌, ◌+◌, ◌∙◌, ℕ, zero, suc, Bool, true, false, cond, List, [], ◌∷◌, ◌++◌, ap, sym, refl, arith, take}
use Rattle.std.specs.Prelude.{All, Some, filter, if◌then◌else◌, slice_get}
use Rattle.std.specs.List.{flat_map, range_with_len}
use Rattle.std.proofs.lemmas.List.{append-nil, append_assoc, take_more}
use Rattle.std.proofs.lemmas.List.Concat.{flat_map-append}
use Rattle.std.proofs.lemmas.List.Elements.{All-filter, filter-append}
use Rattle.std.proofs.lemmas.Option.{get_or_from_slice_get, slice_get_within}
use Rattle.run_log.specs.declared.record.Record.{Record}
use Rattle.run_log.specs.Curve.{is_shown, shown}
use Rattle.run_log.proofs.Runs.{range-more}

one : (f : ℕ → List ℕ) (b : Bool) (q : ℕ) → flat_map f (cond b (q ∷ []) []) ≡ (if b then f q else [])
one f true q = append-nil (f q)
one f false q = refl

shown-more : (f : ℕ → List ℕ) (n every q : ℕ)
    → flat_map f (filter (is_shown n every) (range_with_len 0 (q + 1)))
    ≡ flat_map f (filter (is_shown n every) (range_with_len 0 q)) ++ (if is_shown n every q then f q else [])
shown-more f n every q =
    let p : ℕ → Bool = is_shown n every in
    let here : 0 + q ≡ q = omega arith in
    ap (λ (l : List ℕ). flat_map f (filter p l)) (range-more 0 q ∙ ap (λ (k : ℕ). range_with_len 0 q ++ k ∷ []) here)
    ∙ ap (flat_map f) (filter-append p (range_with_len 0 q) (q ∷ []))
    ∙ flat_map-append f (filter p (range_with_len 0 q)) (cond (p q) (q ∷ []) [])
    ∙ ap (λ (l : List ℕ). flat_map f (filter p (range_with_len 0 q)) ++ l) (one f (p q) q)

-- one quantum more
pub shown-next : (f : ℕ → List ℕ) (n every q : ℕ) (old before now : List ℕ) → before ≡ old ++ flat_map f (filter (is_shown n every) (range_with_len 0 q))
    → now ≡ before ++ (if is_shown n every q then f q else []) → now ≡ old ++ flat_map f (filter (is_shown n every) (range_with_len 0 (q + 1)))
shown-next f n every q old before now is more =
    let line : List ℕ = if is_shown n every q then f q else [] in
    more ∙ ap (λ (l : List ℕ). l ++ line) is ∙ append_assoc old (flat_map f (filter (is_shown n every) (range_with_len 0 q))) line
    ∙ ap (λ (l : List ℕ). old ++ l) (sym (shown-more f n every q))

-- one record more
pub record-next : (f : Record → List ℕ) (rs : List Record) (k : ℕ) (r : Record) (old before now : List ℕ) → slice_get rs k ≡ Some r
    → before ≡ old ++ flat_map f (take k rs)
    → now ≡ before ++ f r → now ≡ old ++ flat_map f (take (k + 1) rs)
record-next f rs k r old before now got is more =
    let one_more : take (k + 1) rs ≡ take k rs ++ r ∷ [] =
    take_more rs k r (slice_get_within rs k r got) ∙ ap (λ (x : Record). take k rs ++ x ∷ []) (get_or_from_slice_get rs k r r got) in
    more ∙ ap (λ (l : List ℕ). l ++ f r) is ∙ append_assoc old (flat_map f (take k rs)) (f r)
    ∙ ap (λ (l : List ℕ). old ++ l)
    (sym (ap (flat_map f) one_more ∙ flat_map-append f (take k rs) (r ∷ []) ∙ ap (λ (l : List ℕ). flat_map f (take k rs) ++ l) (append-nil (f r))))

range-below : (a n : ℕ) → All (λ q. q < a + n) (range_with_len a n)
range-below a zero = λ k d below. absurd (omega arith)
range-below a (suc n) = go (range-below (a + 1) n)
  where
    go : All (λ q. q < a + 1 + n) (range_with_len (a + 1) n) → All (λ q. q < a + suc n) (a ∷ range_with_len (a + 1) n)
    go rest zero d below = omega arith
    go rest (suc k) d below = omega (arith, rest k d (omega arith))

same-lines : (f g : ℕ → List ℕ) (n : ℕ) (xs : List ℕ) → All (λ q. q < n) xs → ((q : ℕ) → q < n → f q ≡ g q) → flat_map f xs ≡ flat_map g xs
same-lines f g n [] all same = refl
same-lines f g n (x ∷ xs) all same =
    ap (λ (l : List ℕ). l ++ flat_map f xs) (same x (all 0 x (omega arith)))
    ∙ ap (λ (l : List ℕ). g x ++ l) (same-lines f g n xs (λ k d below. all (suc k) d (omega arith)) same)

-- lines that agree up to n
pub shown-same : (f g : ℕ → List ℕ) (n every : ℕ) → ((q : ℕ) → q ≤ n → f q ≡ g q) → flat_map f (shown n every) ≡ flat_map g (shown n every)
shown-same f g n every same =
    same-lines f g (0 + (n + 1)) (shown n every) (All-filter (is_shown n every) (λ q. q < 0 + (n + 1)) (range_with_len 0 (n + 1)) (range-below 0 (n + 1)))
    (λ q below. same q (omega (arith, below)))
