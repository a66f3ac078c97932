-- What is noted of a quantum, one birth or death after another.
use Rattle.std.proofs.Common.{◌≡◌, ◌≤◌, ◌<◌, ◌+◌, ◌-◌, ◌∙◌, ℕ, suc, Bool, true, false, cond, List, [], ◌∷◌, ◌++◌, ap, sym, refl, arith, length, subst, get_or}
use Rattle.std.proofs.Common.{take, drop, drop-cons, add-one}
use Rattle.std.specs.Prelude.{All, filter, if◌then◌else◌, map, not, ◌==◌}
use Rattle.std.specs.List.{range_with_len}
use Rattle.std.proofs.lemmas.List.{append-nil, append_assoc, map-append, take_more, take-append-drop}
use Rattle.std.proofs.lemmas.List.Elements.{All-append, All-map, filter-append}
use Rattle.std.proofs.lemmas.Bool.Decides.{nat_tests}
use Rattle.tierra_model.specs.Counting.{one_if, times_in}
use Rattle.tierra_model.proofs.Owners.{times_in-append}
use Rattle.run_log.specs.declared.record.Record.{Record}
use Rattle.run_log.specs.declared.record.Record.TheVariants.{Birth, Death}
use Rattle.run_log.specs.Records.{living_in, quantum_of}
use Rattle.run_log.proofs.Numbers.{range-past, times_in-fewer}
use Rattle.run_log.proofs.Entries.{living-push}
use Rattle.run_log.proofs.Runs.{filter-one, range-more}

-- records of a quantum after others of it or of those before it
pub order-births : (q : ℕ) (before now : List Record) (ids : List ℕ) → All (λ r. quantum_of r ≤ q) before → now ≡ before ++ map (λ k. Birth q k) ids
    → All (λ r. quantum_of r ≤ q) now
order-births q before now ids order is =
    subst (All (λ r. quantum_of r ≤ q)) (sym is)
    (All-append (λ r. quantum_of r ≤ q) before (map (λ k. Birth q k) ids) order
    (All-map (λ r. quantum_of r ≤ q) (λ k. Birth q k) ids (λ k d below. omega arith)))

pub order-deaths : (q : ℕ) (before now : List Record) (ids : List ℕ) → All (λ r. quantum_of r ≤ q) before → now ≡ before ++ map (λ k. Death q k) ids
    → All (λ r. quantum_of r ≤ q) now
order-deaths q before now ids order is =
    subst (All (λ r. quantum_of r ≤ q)) (sym is)
    (All-append (λ r. quantum_of r ≤ q) before (map (λ k. Death q k) ids) order
    (All-map (λ r. quantum_of r ≤ q) (λ k. Death q k) ids (λ k d below. omega arith)))

-- ---- births

range-next : (first id : ℕ) → first ≤ id → range_with_len first (id + 1 - first) ≡ range_with_len first (id - first) ++ id ∷ []
range-next first id le =
    let one : id + 1 - first ≡ id - first + 1 = omega arith in
    let last : first + (id - first) ≡ id = omega arith in
    ap (range_with_len first) one ∙ range-more first (id - first) ∙ ap (λ (k : ℕ). range_with_len first (id - first) ++ k ∷ []) last

pub absent-next : (first id : ℕ) (old new : List ℕ) → ((k : ℕ) → first ≤ k → times_in old k ≡ 0) → first ≤ id → new ≡ old ++ range_with_len first (id - first)
    → times_in new id ≡ 0
absent-next first id old new fresh le is =
    omega (
      arith,
      ap (λ (l : List ℕ). times_in l id) is,
      times_in-append old (range_with_len first (id - first)) id,
      fresh id le,
      range-past first (id - first)
          id (omega arith),
    )

pub born-next : (first id : ℕ) (old new : List ℕ) → first ≤ id → new ≡ old ++ range_with_len first (id - first)
    → new ++ id ∷ [] ≡ old ++ range_with_len first (id + 1 - first)
born-next first id old new le is =
    ap (λ (l : List ℕ). l ++ id ∷ []) is ∙ append_assoc old (range_with_len first (id - first)) (id ∷ []) ∙ ap (λ (l : List ℕ). old ++ l)
    (sym (range-next first id le))

pub births-next : (q first id : ℕ) (before now : List Record) → first ≤ id → now ≡ before ++ map (λ k. Birth q k) (range_with_len first (id - first))
    → now ++ Birth q id ∷ [] ≡ before ++ map (λ k. Birth q k) (range_with_len first (id + 1 - first))
births-next q first id before now le is =
    ap (λ (l : List Record). l ++ Birth q id ∷ []) is ∙ append_assoc before (map (λ k. Birth q k) (range_with_len first (id - first))) (Birth q id ∷ [])
    ∙ ap (λ (l : List Record). before ++ l) (sym (map-append (λ k. Birth q k) (range_with_len first (id - first)) (id ∷ [])))
    ∙ ap (λ (l : List ℕ). before ++ map (λ k. Birth q k) l) (sym (range-next first id le))

-- ---- deaths

module _ (p : ℕ → Bool) (q i id : ℕ) (xs left : List ℕ) (inoculated : ℕ) (before now : List Record) (within : i < length xs) (item : id ≡ get_or xs i id)
    (once : (k : ℕ) → times_in xs k ≤ 1)
    (kept : left ≡ filter p (take i xs)) (same : living_in inoculated now ≡ left ++ drop i xs)
    (records : now ≡ before ++ map (λ k. Death q k) (filter (λ k. not (p k)) (take i xs))) where
  rest : drop i xs ≡ id ∷ drop (i + 1) xs
  rest = drop-cons xs i id within ∙ ap (λ (x : ℕ). x ∷ drop (suc i) xs) (sym item) ∙ ap (λ (k : ℕ). id ∷ drop k xs) (sym (add-one i))

  taken : take (i + 1) xs ≡ take i xs ++ id ∷ []
  taken = take_more xs i id within ∙ ap (λ (x : ℕ). take i xs ++ x ∷ []) (sym item)

  living : living_in inoculated now ≡ left ++ id ∷ drop (i + 1) xs
  living = same ∙ ap (λ (l : List ℕ). left ++ l) rest

  itself : one_if (id == id) ≡ 1
  itself = same_number id
    where
      same_number : (n : ℕ) → one_if (n == n) ≡ 1
      same_number n = grind (arith, nat_tests)

  pub present-next : 0 < times_in (living_in inoculated now) id
  present-next = omega (arith, ap (λ (l : List ℕ). times_in l id) living, times_in-append left (id ∷ drop (i + 1) xs) id, itself)

  few : times_in (left ++ id ∷ drop (i + 1) xs) id ≤ 1
  few =
      let times : List ℕ → ℕ = λ (l : List ℕ). times_in l id in
      omega (
        arith,
        ap times kept,
        times_in-fewer p (take i xs) id,
        times_in-append left (id ∷ drop (i + 1) xs) id,
        times_in-append (take i xs) (drop i xs) id,
        ap times (take-append-drop i xs),
        ap times rest,
        once id,
      )

  ends : (r : ℕ → Bool) → filter r (take (i + 1) xs) ≡ filter r (take i xs) ++ cond (r id) (id ∷ []) []
  ends r = ap (filter r) taken ∙ filter-append r (take i xs) (id ∷ [])

  -- who lives on is kept
  pub kept-next : p id ≡ true → left ++ id ∷ [] ≡ filter p (take (i + 1) xs)
  kept-next e = ap (λ (l : List ℕ). l ++ id ∷ []) kept ∙ sym (ends p ∙ ap (λ (b : Bool). filter p (take i xs) ++ cond b (id ∷ []) []) e)

  pub same-kept : living_in inoculated now ≡ (left ++ id ∷ []) ++ drop (i + 1) xs
  same-kept = living ∙ sym (append_assoc left (id ∷ []) (drop (i + 1) xs))

  pub records-kept : p id ≡ true → now ≡ before ++ map (λ k. Death q k) (filter (λ k. not (p k)) (take (i + 1) xs))
  records-kept e =
      let none : filter (λ k. not (p k)) (take (i + 1) xs) ≡ filter (λ k. not (p k)) (take i xs) =
      ends (λ k. not (p k)) ∙ ap (λ (b : Bool). filter (λ k. not (p k)) (take i xs) ++ cond (not b) (id ∷ []) []) e
      ∙ append-nil (filter (λ k. not (p k)) (take i xs)) in
      records ∙ ap (λ (l : List ℕ). before ++ map (λ k. Death q k) l) (sym none)

  -- who does not leaves
  pub left-gone : p id ≡ false → left ≡ filter p (take (i + 1) xs)
  left-gone e = kept ∙ sym (ends p ∙ ap (λ (b : Bool). filter p (take i xs) ++ cond b (id ∷ []) []) e ∙ append-nil (filter p (take i xs)))

  pub same-gone : living_in inoculated (now ++ Death q id ∷ []) ≡ left ++ drop (i + 1) xs
  same-gone = living-push inoculated now (Death q id) ∙ ap (filter (λ x. not (x == id))) living ∙ filter-one id left (drop (i + 1) xs) few

  pub records-gone : p id ≡ false → now ++ Death q id ∷ [] ≡ before ++ map (λ k. Death q k) (filter (λ k. not (p k)) (take (i + 1) xs))
  records-gone e =
      let more : filter (λ k. not (p k)) (take (i + 1) xs) ≡ filter (λ k. not (p k)) (take i xs) ++ id ∷ [] =
      ends (λ k. not (p k)) ∙ ap (λ (b : Bool). filter (λ k. not (p k)) (take i xs) ++ cond (not b) (id ∷ []) []) e in
      ap (λ (l : List Record). l ++ Death q id ∷ []) records
      ∙ append_assoc before (map (λ k. Death q k) (filter (λ k. not (p k)) (take i xs))) (Death q id ∷ [])
      ∙ ap (λ (l : List Record). before ++ l) (sym (map-append (λ k. Death q k) (filter (λ k. not (p k)) (take i xs)) (id ∷ [])))
      ∙ ap (λ (l : List ℕ). before ++ map (λ k. Death q k) l) (sym more)

  -- either way
  pub left-next : (new : List ℕ) → new ≡ (if p id then left ++ id ∷ [] else left) → new ≡ filter p (take (i + 1) xs)
  left-next new is = go (p id) refl is
    where
      go : (b : Bool) → p id ≡ b → new ≡ (if b then left ++ id ∷ [] else left) → new ≡ filter p (take (i + 1) xs)
      go true e at = at ∙ kept-next e
      go false e at = at ∙ left-gone e

  pub records-next : (new : List Record) → new ≡ (if p id then now else now ++ Death q id ∷ [])
      → new ≡ before ++ map (λ k. Death q k) (filter (λ k. not (p k)) (take (i + 1) xs))
  records-next new is = go (p id) refl is
    where
      go : (b : Bool) → p id ≡ b → new ≡ (if b then now else now ++ Death q id ∷ [])
          → new ≡ before ++ map (λ k. Death q k) (filter (λ k. not (p k)) (take (i + 1) xs))
      go true e at = at ∙ records-kept e
      go false e at = at ∙ records-gone e

  pub same-next : (after : List ℕ) (new : List Record) → after ≡ (if p id then left ++ id ∷ [] else left) → new ≡ (if p id then now else now ++ Death q id ∷ [])
      → living_in inoculated new ≡ after ++ drop (i + 1) xs
  same-next after new is at = go (p id) is at
    where
      go : (b : Bool) → after ≡ (if b then left ++ id ∷ [] else left) → new ≡ (if b then now else now ++ Death q id ∷ [])
          → living_in inoculated new ≡ after ++ drop (i + 1) xs
      go true f g = ap (living_in inoculated) g ∙ same-kept ∙ sym (ap (λ (l : List ℕ). l ++ drop (i + 1) xs) f)
      go false f g = ap (living_in inoculated) g ∙ same-gone ∙ sym (ap (λ (l : List ℕ). l ++ drop (i + 1) xs) f)
