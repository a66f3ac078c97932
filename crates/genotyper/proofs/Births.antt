-- The genotypes after the first birth of one.
use Rattle.std.proofs.Common.{◌≡◌, ℕ, zero, suc, ◌+◌, ◌<◌, ◌≤◌, Bool, true, false, cond, List, [], ◌∷◌, ◌++◌, refl, sym, ◌∙◌, ap, subst, arith, slice_get}
use Rattle.std.proofs.Common.{length, length-append, inl, inr}
use Rattle.std.specs.Prelude.{All, IfSome, None, Option, Some, option_map, if◌then◌else◌, ◌==◌, ◌⊎◌, nat_lt, not}
use Rattle.std.specs.List.{position, position_or_len}
use Rattle.std.specs.Map.{keys_of, values_of}
use Rattle.indexmap.specs.IndexMap.{insert_entry}
use Rattle.std.proofs.lemmas.List.Elements.{All-head, All-tail}
use Rattle.std.specs.Str.{bytes_eq}
use Rattle.std.proofs.lemmas.Bool.Decides.{nat_tests}
use Rattle.tierra_model.specs.declared.limits.TheConstants.{MOST_SIZE}
use Rattle.tierra_model.specs.Counting.{one_if}
use Rattle.tierra_model.specs.Genebank.{number_before}
use Rattle.tierra_model.specs.Individuals.{genotype_number, with_individual, with_one_more}
use Rattle.tierra_model.specs.World.{Genotype, genotype_at}
use Rattle.genotyper.specs.declared.genotypes.Details.{Details}
use Rattle.genotyper.specs.Genotypes.{IsRanked, genotype_of, genotypes_of}
use Rattle.genotyper.proofs.Writes.{Entries, Entry, genotypes-with_one_more, ranked-written, same_entry}

-- ---- counts by size

pub number_before_le : (size : ℕ) (gs : List Genotype) (k : ℕ) → number_before size gs k ≤ k
number_before_le size gs zero = omega arith
number_before_le size [] (suc k) = omega arith
number_before_le size (g ∷ gs) (suc k) = go (length g.code == size) (number_before_le size gs k)
  where
    go : (b : Bool) → number_before size gs k ≤ k → (if b then 1 else 0) + number_before size gs k ≤ suc k
    go true h = omega arith
    go false h = omega arith

-- those before a place do not change as the list grows
number_before-append : (size : ℕ) (gs hs : List Genotype) (k : ℕ) → k ≤ length gs → number_before size (gs ++ hs) k ≡ number_before size gs k
number_before-append size gs hs zero h = refl
number_before-append size [] hs (suc k) h = absurd (omega arith)
number_before-append size (g ∷ gs) hs (suc k) h =
    ap (λ n. (if length g.code == size then 1 else 0) + n) (number_before-append size gs hs k (omega arith))

number_before-append_one : (size : ℕ) (gs : List Genotype) (g : Genotype)
    → number_before size (gs ++ g ∷ []) (length gs + 1) ≡ number_before size gs (length gs) + one_if (length g.code == size)
number_before-append_one size [] g = go (length g.code == size)
  where
    go : (b : Bool) → (if b then 1 else 0) + 0 ≡ 0 + one_if b
    go true = refl
    go false = refl
number_before-append_one size (x ∷ xs) g =
    let next : suc (length xs) + 1 ≡ suc (length xs + 1) = omega arith in
    rw next (omega (arith, number_before-append_one size xs g))

-- ---- the number of a code

position-cons : {X : Type 0} (p : X → Bool) (x : X) (xs : List X)
    → position p (x ∷ xs) ≡ (if p x then Some 0 else option_map suc (position p xs))
position-cons p x xs = go (p x) (position_or_len p xs) (length xs)
  where
    go : (b : Bool) (n m : ℕ) → cond (nat_lt (cond (not b) (1 + n) 0) (suc m)) (Some (cond (not b) (1 + n) 0)) None
        ≡ (if b then Some 0 else option_map suc (cond (nat_lt n m) (Some n) None))
    go true n m = grind (arith, nat_tests)
    go false n m = grind (arith, nat_tests)

eq-sym : (a b : List ℕ) → bytes_eq a b ≡ bytes_eq b a
eq-sym [] [] = refl
eq-sym [] (y ∷ ys) = refl
eq-sym (x ∷ xs) [] = refl
eq-sym (x ∷ xs) (y ∷ ys) = grind (arith, nat_tests, eq-sym xs ys)

pub genotype_number_is_position : (code : List ℕ) (es : Entries) → genotype_number code (genotypes_of es) ≡ position (bytes_eq code) (keys_of es)
genotype_number_is_position code [] = refl
genotype_number_is_position code (e ∷ es) =
    rw (position-cons (bytes_eq code) e.0 (keys_of es), ← genotype_number_is_position code es, eq-sym e.0 code)

-- ---- an entry at the end

at-append : (es : Entries) (e x : Entry) (k : ℕ) → slice_get (es ++ e ∷ []) k ≡ Some x
    → ((k < length es) × (slice_get es k ≡ Some x)) ⊎ ((k ≡ length es) × (e ≡ x))
at-append [] e x zero h = inr (refl, same_entry e x h)
at-append [] e x (suc k) h = cc
at-append (y ∷ ys) e x zero h = inl (omega arith, h)
at-append (y ∷ ys) e x (suc k) h = go (at-append ys e x k h)
  where
    go : ((k < length ys) × (slice_get ys k ≡ Some x)) ⊎ ((k ≡ length ys) × (e ≡ x))
        → ((suc k < length (y ∷ ys)) × (slice_get (y ∷ ys) (suc k) ≡ Some x)) ⊎ ((suc k ≡ length (y ∷ ys)) × (e ≡ x))
    go (inl p) = inl (omega (arith, p.0), p.1)
    go (inr p) = inr (ap (λ (n : ℕ). suc n) p.0, p.1)

pub genotypes_of-append : (es : Entries) (e : Entry) → genotypes_of (es ++ e ∷ []) ≡ genotypes_of es ++ genotype_of e ∷ []
genotypes_of-append [] e = refl
genotypes_of-append (x ∷ xs) e = ap (λ gs. genotype_of x ∷ gs) (genotypes_of-append xs e)

length-genotypes_of : (es : Entries) → length (genotypes_of es) ≡ length es
length-genotypes_of [] = refl
length-genotypes_of (x ∷ xs) = ap (λ (n : ℕ). suc n) (length-genotypes_of xs)

number_before-one_more : (size : ℕ) (es : Entries) (e : Entry)
    → number_before size (genotypes_of (es ++ e ∷ [])) (length (es ++ e ∷ []))
    ≡ number_before size (genotypes_of es) (length es) + one_if (length e.0 == size)
number_before-one_more size es e =
    let n : length (es ++ e ∷ []) ≡ length (genotypes_of es) + 1 = omega (arith, length-append es (e ∷ []), length-genotypes_of es) in
    rw (genotypes_of-append es e, n, ← length-genotypes_of es) (number_before-append_one size (genotypes_of es) (genotype_of e))

-- the genotype of a code that none had goes last, with the count of its size as its rank
pub ranked-append : (es : Entries) (count more : ℕ → ℕ) (code : List ℕ) (d : Details) → IsRanked es count → length code ≤ MOST_SIZE
    → d.rank ≡ count (length code) → ((size : ℕ) → more size ≡ count size + one_if (length code == size))
    → IsRanked (es ++ (code, d) ∷ []) more
ranked-append es count more code d r fits rank counts =
    record {
      short = λ k c v h. elim (at-append es (code, d) (c, v) k h) [
        | inl p ↦ r.short k c v p.1
        | inr p ↦ omega (arith, ap (λ (e : Entry). length e.0) p.1)
      ];
      ranks = λ k c v h. elim (at-append es (code, d) (c, v) k h) [
        | inl p ↦ r.ranks k c v p.1 ∙ sym (before k (length c) (omega (arith, p.0)))
        | inr p ↦
            let size : length code ≡ length c = ap (λ (e : Entry). length e.0) p.1 in
            sym (ap (λ (e : Entry). e.1.rank) p.1) ∙ rank ∙ r.counts (length code)
            ∙ sym (before (length es) (length code) (omega arith))
            ∙ ap (λ n. number_before n (genotypes_of (es ++ (code, d) ∷ [])) (length es)) size
            ∙ ap (number_before (length c) (genotypes_of (es ++ (code, d) ∷ []))) (sym p.0)
      ];
      counts = λ size.
          counts size ∙ ap (λ n. n + one_if (length code == size)) (r.counts size) ∙ sym (number_before-one_more size es (code, d));
    }
  where
    before : (k size : ℕ) → k ≤ length es → number_before size (genotypes_of (es ++ (code, d) ∷ [])) k ≡ number_before size (genotypes_of es) k
    before k size h =
        ap (λ gs. number_before size gs k) (genotypes_of-append es (code, d))
        ∙ number_before-append size (genotypes_of es) (genotype_of (code, d) ∷ []) k (omega (arith, length-genotypes_of es))

-- no count passes the number of genotypes
pub count_lt : (es : Entries) (count : ℕ → ℕ) (size n : ℕ) → IsRanked es count → length es < n → count size < n
count_lt es count size n r h = omega (arith, r.counts size, number_before_le size (genotypes_of es) (length es))

pub insert_entry_behind : (code : List ℕ) (d : Details) (es : Entries) → genotype_number code (genotypes_of es) ≡ None
    → insert_entry bytes_eq es code d ≡ es ++ (code, d) ∷ []
insert_entry_behind code d [] h = refl
insert_entry_behind code d (e ∷ es) h = go (bytes_eq e.0 code) (genotype_number code (genotypes_of es)) (eq-sym code e.0) h (insert_entry_behind code d es)
  where
    go : (b : Bool) (o : Option ℕ) → bytes_eq code e.0 ≡ b → (if b then Some 0 else option_map suc o) ≡ None
        → (o ≡ None → insert_entry bytes_eq es code d ≡ es ++ (code, d) ∷ [])
        → insert_entry bytes_eq (e ∷ es) code d ≡ (e ∷ es) ++ (code, d) ∷ []
    go true o t h ih = cc
    go false None f h ih = rw (f, ih refl)
    go false (Some k) f h ih = cc

-- ---- individuals

pub with_individual-first : (gs : List Genotype) (code : List ℕ) (parent : Option ℕ) (q : ℕ) → genotype_number code gs ≡ None
    → with_individual gs code parent q
    ≡ (gs ++ (record { code = code; parent = parent; first_quantum = q; total = 1; first_effort = None; second_effort = None }) ∷ [], length gs)
unfolding with_individual
with_individual-first gs code parent q h = rw (h, with_individual)

pub with_individual-again : (gs : List Genotype) (code : List ℕ) (parent : Option ℕ) (q k : ℕ) → genotype_number code gs ≡ Some k
    → with_individual gs code parent q ≡ (with_one_more k gs, k)
unfolding with_individual
with_individual-again gs code parent q k h = rw (h, with_individual)

-- a bound on a genotype's total is one on what is kept of it
pub total_lt : (es : Entries) (i n : ℕ) (d : Details) → slice_get (values_of es) i ≡ Some d → (genotype_at (genotypes_of es) i).total < n → d.total < n
total_lt [] i n d at h = cc
total_lt (x ∷ xs) zero n d at h =
    let same : x.1 ≡ d = cc in
    omega (arith, h, ap (λ (y : Details). y.total) same)
total_lt (x ∷ xs) (suc i) n d at h = total_lt xs i n d at h

-- a bound on all totals is one on that of a code
pub total_of_code : (code : List ℕ) (gs : List Genotype) (n : ℕ) → All (λ g. g.total < n) gs
    → IfSome (genotype_number code gs) (λ k. (genotype_at gs k).total < n)
total_of_code code [] n h = tt
total_of_code code (g ∷ gs) n h = go (bytes_eq g.code code) (genotype_number code gs)
    (total_of_code code gs n (All-tail (λ (g : Genotype). g.total < n) g gs h))
  where
    go : (b : Bool) (o : Option ℕ) → IfSome o (λ k. (genotype_at gs k).total < n)
        → IfSome (if b then Some 0 else option_map suc o) (λ k. (genotype_at (g ∷ gs) k).total < n)
    go true o r = All-head (λ (g : Genotype). g.total < n) g gs h
    go false None r = tt
    go false (Some k) r = r

-- the same by equations
pub ranked-first : (es fs : Entries) (count more : ℕ → ℕ) (code : List ℕ) (d : Details) (size : ℕ) → fs ≡ es ++ (code, d) ∷ [] → IsRanked es count
    → length code ≤ MOST_SIZE → size ≡ length code → d.rank ≡ count size → ((n : ℕ) → more n ≡ count n + one_if (size == n)) → IsRanked fs more
ranked-first es fs count more code d size e r fits long rank counts =
    subst (λ xs. IsRanked xs more) (sym e)
    (ranked-append es count more code d r fits (rank ∙ ap count long) (λ n. counts n ∙ ap (λ s. count n + one_if (s == n)) long))

pub genotypes-entered : (gs : List Genotype) (es fs : Entries) (code : List ℕ) (d : Details) → genotypes_of es ≡ gs
    → fs ≡ es ++ (code, d) ∷ [] → genotypes_of fs ≡ gs ++ genotype_of (code, d) ∷ []
genotypes-entered gs es fs code d same e =
    ap genotypes_of e ∙ genotypes_of-append es (code, d) ∙ ap (λ hs. hs ++ genotype_of (code, d) ∷ []) same

pub genotypes-first : (gs : List Genotype) (code : List ℕ) (parent : Option ℕ) (q : ℕ) → genotype_number code gs ≡ None
    → (with_individual gs code parent q).0
    ≡ gs ++ (record { code = code; parent = parent; first_quantum = q; total = 1; first_effort = None; second_effort = None }) ∷ []
genotypes-first gs code parent q h = ap (λ (r : List Genotype × ℕ). r.0) (with_individual-first gs code parent q h)

pub number-first : (gs : List Genotype) (code : List ℕ) (parent : Option ℕ) (q : ℕ) → genotype_number code gs ≡ None
    → (with_individual gs code parent q).1 ≡ length gs
number-first gs code parent q h = ap (λ (r : List Genotype × ℕ). r.1) (with_individual-first gs code parent q h)

pub genotypes-again : (gs : List Genotype) (code : List ℕ) (parent : Option ℕ) (q k : ℕ) → genotype_number code gs ≡ Some k
    → (with_individual gs code parent q).0 ≡ with_one_more k gs
genotypes-again gs code parent q k h = ap (λ (r : List Genotype × ℕ). r.0) (with_individual-again gs code parent q k h)

pub number-again : (gs : List Genotype) (code : List ℕ) (parent : Option ℕ) (q k : ℕ) → genotype_number code gs ≡ Some k
    → (with_individual gs code parent q).1 ≡ k
number-again gs code parent q k h = ap (λ (r : List Genotype × ℕ). r.1) (with_individual-again gs code parent q k h)

pub ruleset entered = (count_lt, ranked-first, genotypes-entered)

pub ruleset individuals = (genotypes-first, number-first, genotypes-again, number-again)

pub ruleset again = (total_lt, ranked-written, genotypes-with_one_more)
