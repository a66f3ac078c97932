-- Lists of own counts: how many there are, and two of them made one.
use Rattle.std.proofs.Common.{◌≡◌, ◌≢◌, ℕ, zero, suc, ◌+◌, ◌<◌, ◌≤◌, ◌⊎◌, inl, inr, cond, List, [], ◌∷◌, length, get_or, set, sym, refl, ap, ◌∙◌, arith, Option}
use Rattle.std.proofs.Common.{Some, None, get_or-set_other}
use Rattle.std.specs.Prelude.{sum, sum_by, count_by, is_some, unwrap_or, replicate, IsSome, IsSomeAnd}
use Rattle.std.specs.Option.{option_or}
use Rattle.std.proofs.lemmas.List.Sums.{sum_by-set, sum_by-cons}
use Rattle.std.proofs.lemmas.Option.{none-some}
use Rattle.turn_lock.specs.Seat.{only}
use Rattle.turn_lock.specs.View.{merged}

pub value_of : (o : Option ℕ) → IsSome o → (n : ℕ) × (o ≡ Some n)
value_of None e = cc
value_of (Some n) e = (n, refl)

pub value_where : (o : Option ℕ) (P : ℕ → Type 0) → IsSomeAnd o P → (n : ℕ) × (o ≡ Some n) × P n
value_where None P h = absurd h
value_where (Some n) P h = (n, refl, h)

-- where neither stands, and which of the two is there

or_none : (o : Option ℕ) → o ≡ option_or o None
or_none None = refl
or_none (Some n) = refl

pub or_from : (o p : Option ℕ) (n : ℕ) → option_or o p ≡ Some n → (o ≡ Some n) ⊎ (p ≡ Some n)
or_from None p n e = inr e
or_from (Some k) p n e = inl e

pub or_left : (o p : Option ℕ) (n : ℕ) → o ≡ Some n → option_or o p ≡ Some n
or_left None p n e = absurd (none-some n e)
or_left (Some k) p n e = e

pub or_right : (o p : Option ℕ) (n : ℕ) → p ≡ Some n → (k : ℕ) × (option_or o p ≡ Some k)
or_right None p n e = (n, e)
or_right (Some k) p n e = (k, refl)

pub or_same : (o p : Option ℕ) (n : ℕ) → ((k : ℕ) → o ≡ Some k → k ≡ n) → p ≡ Some n → option_or o p ≡ Some n
or_same None p n all e = e
or_same (Some k) p n all e = ap Some (all k refl)

-- a caller's place is in the list
pub owned_inside : (l : List (Option ℕ)) (i n : ℕ) → get_or l i None ≡ Some n → i < length l
owned_inside [] i n e = absurd (none-some n e)
owned_inside (x ∷ xs) zero n e = omega arith
owned_inside (x ∷ xs) (suc i) n e = let h = owned_inside xs i n e in omega arith

abbrev pub has : Option ℕ → ℕ
has o = cond (is_some {T = ℕ} o) 1 0

-- where a caller is spoken for, at least one is
pub count_some : (l : List (Option ℕ)) (i n : ℕ) → get_or l i None ≡ Some n → 1 ≤ count_by is_some l
count_some [] i n e = absurd (none-some n e)
count_some (x ∷ xs) zero n e =
    let h : has x ≡ 1 = ap has e in
    let c : count_by is_some (x ∷ xs) ≡ has x + count_by is_some xs = sum_by-cons has x xs in
    omega arith
count_some (x ∷ xs) (suc i) n e =
    let h : 1 ≤ count_by is_some xs = count_some xs i n e in
    let c : count_by is_some (x ∷ xs) ≡ has x + count_by is_some xs = sum_by-cons has x xs in
    omega arith

pub count-set : (l : List (Option ℕ)) (i n k : ℕ) → get_or l i None ≡ Some n → count_by is_some (set l i (Some k)) ≡ count_by is_some l
count-set l i n k e =
    let h : count_by is_some (set l i (Some k)) + has (get_or l i None) ≡ count_by is_some l + 1 = sum_by-set has l i (Some k) None (owned_inside l i n e) in
    let one : has (get_or l i None) ≡ 1 = ap has e in
    omega arith

pub length-merged : (xs ys : List (Option ℕ)) → length xs ≡ length ys → length (merged xs ys) ≡ length xs
length-merged [] ys e = sym e
length-merged (x ∷ xs) [] e = refl
length-merged (x ∷ xs) (y ∷ ys) e = ap suc (length-merged xs ys (omega arith))

pub get_or-merged : (xs ys : List (Option ℕ)) (i : ℕ) → get_or (merged xs ys) i None ≡ option_or (get_or xs i None) (get_or ys i None)
get_or-merged [] ys i = refl
get_or-merged (x ∷ xs) [] zero = or_none x
get_or-merged (x ∷ xs) [] (suc i) = or_none (get_or xs i None)
get_or-merged (x ∷ xs) (y ∷ ys) zero = refl
get_or-merged (x ∷ xs) (y ∷ ys) (suc i) = get_or-merged xs ys i

pub merged_from : (xs ys : List (Option ℕ)) (i n : ℕ) → get_or (merged xs ys) i None ≡ Some n
    → (get_or xs i None ≡ Some n) ⊎ (get_or ys i None ≡ Some n)
merged_from xs ys i n e = or_from (get_or xs i None) (get_or ys i None) n (sym (get_or-merged xs ys i) ∙ e)

pub merged_left : (xs ys : List (Option ℕ)) (i n : ℕ) → get_or xs i None ≡ Some n → get_or (merged xs ys) i None ≡ Some n
merged_left xs ys i n e = get_or-merged xs ys i ∙ or_left (get_or xs i None) (get_or ys i None) n e

pub merged_right : (xs ys : List (Option ℕ)) (i n : ℕ) → get_or ys i None ≡ Some n → (k : ℕ) × (get_or (merged xs ys) i None ≡ Some k)
merged_right xs ys i n e = let h = or_right (get_or xs i None) (get_or ys i None) n e in (h.0, get_or-merged xs ys i ∙ h.1)

-- no place has a count in both
abbrev pub AreApart : List (Option ℕ) → List (Option ℕ) → Type 0
AreApart xs ys = (i a b : ℕ) → get_or xs i None ≡ Some a → get_or ys i None ≡ Some b → ⊥

has-or : (o p : Option ℕ) → ((a b : ℕ) → o ≡ Some a → p ≡ Some b → ⊥) → has (option_or o p) ≡ has o + has p
has-or None p apart = omega arith
has-or (Some a) None apart = refl
has-or (Some a) (Some b) apart = absurd (apart a b refl refl)

pub count-merged : (xs ys : List (Option ℕ)) → length xs ≡ length ys → AreApart xs ys
    → count_by is_some (merged xs ys) ≡ count_by is_some xs + count_by is_some ys
count-merged [] [] e apart = refl
count-merged [] (y ∷ ys) e apart = absurd (omega arith)
count-merged (x ∷ xs) [] e apart = absurd (omega arith)
count-merged (x ∷ xs) (y ∷ ys) e apart =
    let h : count_by is_some (merged xs ys) ≡ count_by is_some xs + count_by is_some ys = count-merged xs ys (omega arith) (λ i. apart (suc i)) in
    let here : has (option_or x y) ≡ has x + has y = has-or x y (apart 0) in
    let a : count_by is_some (x ∷ xs) ≡ has x + count_by is_some xs = sum_by-cons has x xs in
    let b : count_by is_some (y ∷ ys) ≡ has y + count_by is_some ys = sum_by-cons has y ys in
    let c : count_by is_some (option_or x y ∷ merged xs ys) ≡ has (option_or x y) + count_by is_some (merged xs ys) =
    sum_by-cons has (option_or x y) (merged xs ys) in
    omega arith

abbrev pub blank : ℕ → List (Option ℕ)
blank n = replicate n None

abbrev pub zeros : ℕ → List ℕ
zeros n = replicate n 0

pub blank_none : (n i : ℕ) → get_or (blank n) i None ≡ None
blank_none zero i = refl
blank_none (suc n) zero = refl
blank_none (suc n) (suc i) = blank_none n i

pub zeros_zero : (n i : ℕ) → get_or (zeros n) i 0 ≡ 0
zeros_zero zero i = refl
zeros_zero (suc n) zero = refl
zeros_zero (suc n) (suc i) = zeros_zero n i

pub only_one : (i j n : ℕ) → j ≢ i → get_or (only i) j None ≡ Some n → ⊥
only_one i j n other e = none-some n (sym (blank_none 64 j) ∙ (sym (get_or-set_other (blank 64) i j (Some 0) None other) ∙ e))

abbrev pub count_or_zero : Option ℕ → ℕ
count_or_zero o = unwrap_or o 0

-- what a place has in a list of numbers is what it has in the list of counts, or 0
pub sum-alike : (l : List (Option ℕ)) (counts : List ℕ) → length counts ≡ length l
    → ((i : ℕ) → get_or counts i 0 ≡ count_or_zero (get_or l i None)) → sum counts ≡ sum_by count_or_zero l
sum-alike [] [] e same = refl
sum-alike [] (c ∷ cs) e same = absurd (omega arith)
sum-alike (x ∷ l) [] e same = absurd (omega arith)
sum-alike (x ∷ l) (c ∷ cs) e same =
    let h : sum cs ≡ sum_by count_or_zero l = sum-alike l cs (omega arith) (λ i. same (suc i)) in
    let a : sum (c ∷ cs) ≡ c + sum cs = sum_by-cons (λ (z : ℕ). z) c cs in
    let b : sum_by count_or_zero (x ∷ l) ≡ count_or_zero x + sum_by count_or_zero l = sum_by-cons count_or_zero x l in
    let here : c ≡ count_or_zero x = same 0 in
    omega arith
