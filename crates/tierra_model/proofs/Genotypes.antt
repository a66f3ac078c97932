-- The list of genotypes stays a good one as one more individual is counted.
use Rattle.std.proofs.Common.{◌≡◌, ℕ, zero, suc, ◌+◌, ◌<◌, ◌≤◌, Bool, true, false, List, [], ◌∷◌, ◌++◌, refl, sym, ◌∙◌, ap, subst, arith, ◌≢◌, length}
use Rattle.std.proofs.Common.{length-append}
use Rattle.std.specs.Prelude.{Some, None, Option, IfSome, All, option_map, if◌then◌else◌}
use Rattle.std.specs.Str.{bytes_eq}
use Rattle.std.proofs.lemmas.List.Elements.{All-nil, All-cons, All-head, All-tail, All-push, All-weaker}
use Rattle.std.proofs.lemmas.Slice.Eq.{bytes_eq-Decides}
use Rattle.tierra_model.specs.Counting.{one_if}
use Rattle.tierra_model.specs.Ranges.{AreEfforts, IsCode}
use Rattle.tierra_model.specs.World.{Genotype, genotype_at, no_genotype}
use Rattle.tierra_model.specs.Sound.{ParentsBelow, times_coded}
use Rattle.tierra_model.specs.Individuals.{genotype_number, with_one_more, with_individual}
use Rattle.tierra_model.proofs.Owners.{sum_of-append}

abbrev pub HasEfforts : Genotype → Type 0
HasEfforts g = AreEfforts g.first_effort g.second_effort

-- what a sound world says of its list of genotypes alone, where no total is above t
pub record Listed (t : ℕ) (gs : List Genotype) : Type 0 where
  pub once : (code : List ℕ) → times_coded gs code ≤ 1
  pub written : All (λ g. IsCode g.code) gs
  pub parents : ParentsBelow 0 gs
  pub totals : All (λ g. g.total ≤ t) gs
  pub efforts : All HasEfforts gs

-- ---- the genotype of a code

genotype_number-none : (code : List ℕ) (gs : List Genotype) → genotype_number code gs ≡ None → times_coded gs code ≡ 0
genotype_number-none code [] h = refl
genotype_number-none code (g ∷ gs) h = go (bytes_eq g.code code) (genotype_number code gs) refl h (genotype_number-none code gs)
  where
    go : (b : Bool) (o : Option ℕ) → genotype_number code gs ≡ o → (if b then Some 0 else option_map suc o) ≡ None
        → (genotype_number code gs ≡ None → times_coded gs code ≡ 0) → one_if b + times_coded gs code ≡ 0
    go true o e h ih = cc
    go false (Some k) e h ih = cc
    go false None e h ih = omega (arith, ih e)

genotype_number-some : (code : List ℕ) (gs : List Genotype) (k : ℕ) → genotype_number code gs ≡ Some k
    → (k < length gs) × ((genotype_at gs k).code ≡ code)
genotype_number-some code [] k h = cc
genotype_number-some code (g ∷ gs) k h = go (bytes_eq g.code code) (genotype_number code gs) refl refl h (genotype_number-some code gs)
  where
    go : (b : Bool) (o : Option ℕ) → bytes_eq g.code code ≡ b → genotype_number code gs ≡ o → (if b then Some 0 else option_map suc o) ≡ Some k
        → ((j : ℕ) → genotype_number code gs ≡ Some j → (j < length gs) × ((genotype_at gs j).code ≡ code))
        → (k < length (g ∷ gs)) × ((genotype_at (g ∷ gs) k).code ≡ code)
    go true o t e h ih =
        let first : 0 ≡ k = cc in
        subst (λ n. (n < length (g ∷ gs)) × ((genotype_at (g ∷ gs) n).code ≡ code)) first
        (omega arith, (bytes_eq-Decides g.code code).0 t)
    go false None t e h ih = cc
    go false (Some j) t e h ih =
        let later : suc j ≡ k = cc in
        let r = ih j e in
        subst (λ n. (n < length (g ∷ gs)) × ((genotype_at (g ∷ gs) n).code ≡ code)) later (omega (arith, r.0), r.1)

-- ---- one more of a genotype

pub length-with_one_more : (k : ℕ) (gs : List Genotype) → length (with_one_more k gs) ≡ length gs
length-with_one_more k [] = refl
length-with_one_more zero (g ∷ gs) = refl
length-with_one_more (suc k) (g ∷ gs) = ap (λ (n : ℕ). suc n) (length-with_one_more k gs)

pub code-with_one_more : (k : ℕ) (gs : List Genotype) (j : ℕ) → (genotype_at (with_one_more k gs) j).code ≡ (genotype_at gs j).code
code-with_one_more k [] j = refl
code-with_one_more zero (g ∷ gs) zero = refl
code-with_one_more zero (g ∷ gs) (suc j) = refl
code-with_one_more (suc k) (g ∷ gs) zero = refl
code-with_one_more (suc k) (g ∷ gs) (suc j) = code-with_one_more k gs j

pub total-one_more_same : (k : ℕ) (gs : List Genotype) → k < length gs → (genotype_at (with_one_more k gs) k).total ≡ (genotype_at gs k).total + 1
total-one_more_same k [] h = absurd (omega arith)
total-one_more_same zero (g ∷ gs) h = refl
total-one_more_same (suc k) (g ∷ gs) h = total-one_more_same k gs (omega arith)

pub total-one_more_other : (k : ℕ) (gs : List Genotype) (j : ℕ) → j ≢ k → (genotype_at (with_one_more k gs) j).total ≡ (genotype_at gs j).total
total-one_more_other k [] j h = refl
total-one_more_other zero (g ∷ gs) zero h = absurd (h refl)
total-one_more_other zero (g ∷ gs) (suc j) h = refl
total-one_more_other (suc k) (g ∷ gs) zero h = refl
total-one_more_other (suc k) (g ∷ gs) (suc j) h = total-one_more_other k gs j (λ e. h (ap (λ (n : ℕ). suc n) e))

times_coded-with_one_more : (k : ℕ) (gs : List Genotype) (code : List ℕ) → times_coded (with_one_more k gs) code ≡ times_coded gs code
times_coded-with_one_more k [] code = refl
times_coded-with_one_more zero (g ∷ gs) code = refl
times_coded-with_one_more (suc k) (g ∷ gs) code = omega (arith, times_coded-with_one_more k gs code)

written-with_one_more : (k : ℕ) (gs : List Genotype) → All (λ g. IsCode g.code) gs → All (λ g. IsCode g.code) (with_one_more k gs)
written-with_one_more k [] h = h
written-with_one_more zero (g ∷ gs) h =
    All-cons (λ (g : Genotype). IsCode g.code) (record g { total = g.total + 1 }) gs (All-head (λ (g : Genotype). IsCode g.code) g gs h)
    (All-tail (λ (g : Genotype). IsCode g.code) g gs h)
written-with_one_more (suc k) (g ∷ gs) h =
    All-cons (λ (g : Genotype). IsCode g.code) g (with_one_more k gs) (All-head (λ (g : Genotype). IsCode g.code) g gs h)
    (written-with_one_more k gs (All-tail (λ (g : Genotype). IsCode g.code) g gs h))

parents-with_one_more : (k : ℕ) (gs : List Genotype) (n : ℕ) → ParentsBelow n gs → ParentsBelow n (with_one_more k gs)
parents-with_one_more k [] n h = tt
parents-with_one_more zero (g ∷ gs) n h = (h.0, h.1)
parents-with_one_more (suc k) (g ∷ gs) n h = (h.0, parents-with_one_more k gs (n + 1) h.1)

abbrev AtMost : ℕ → Genotype → Type 0
AtMost t g = g.total ≤ t

pub totals-weaker : (t u : ℕ) (gs : List Genotype) → t ≤ u → All (AtMost t) gs → All (AtMost u) gs
totals-weaker t u gs h a = All-weaker (AtMost t) (AtMost u) (λ g k. omega arith) gs a

totals-with_one_more : (t k : ℕ) (gs : List Genotype) → All (AtMost t) gs → All (AtMost (t + 1)) (with_one_more k gs)
totals-with_one_more t k [] h = All-nil (AtMost (t + 1))
totals-with_one_more t zero (g ∷ gs) h =
    let top : g.total ≤ t = All-head (AtMost t) g gs h in
    All-cons (AtMost (t + 1)) (record g { total = g.total + 1 }) gs (omega arith) (totals-weaker t (t + 1) gs (omega arith) (All-tail (AtMost t) g gs h))
totals-with_one_more t (suc k) (g ∷ gs) h =
    let top : g.total ≤ t = All-head (AtMost t) g gs h in
    All-cons (AtMost (t + 1)) g (with_one_more k gs) (omega arith) (totals-with_one_more t k gs (All-tail (AtMost t) g gs h))

efforts-with_one_more : (k : ℕ) (gs : List Genotype) → All HasEfforts gs → All HasEfforts (with_one_more k gs)
efforts-with_one_more k [] h = h
efforts-with_one_more zero (g ∷ gs) h =
    All-cons HasEfforts (record g { total = g.total + 1 }) gs (All-head HasEfforts g gs h) (All-tail HasEfforts g gs h)
efforts-with_one_more (suc k) (g ∷ gs) h =
    All-cons HasEfforts g (with_one_more k gs) (All-head HasEfforts g gs h) (efforts-with_one_more k gs (All-tail HasEfforts g gs h))

-- ---- a new genotype

pub genotype_at-append : (gs xs : List Genotype) (j : ℕ) → j < length gs → genotype_at (gs ++ xs) j ≡ genotype_at gs j
genotype_at-append [] xs j h = absurd (omega arith)
genotype_at-append (g ∷ gs) xs zero h = refl
genotype_at-append (g ∷ gs) xs (suc j) h = genotype_at-append gs xs j (omega arith)

pub genotype_at-last : (gs : List Genotype) (g : Genotype) → genotype_at (gs ++ g ∷ []) (length gs) ≡ g
genotype_at-last [] g = refl
genotype_at-last (x ∷ gs) g = genotype_at-last gs g

pub genotype_at-past : (gs : List Genotype) (j : ℕ) → length gs ≤ j → genotype_at gs j ≡ no_genotype
genotype_at-past [] j h = refl
genotype_at-past (g ∷ gs) zero h = absurd (omega arith)
genotype_at-past (g ∷ gs) (suc j) h = genotype_at-past gs j (omega arith)

parents-append : (gs : List Genotype) (g : Genotype) (n m : ℕ) → n + length gs ≡ m → ParentsBelow n gs → IfSome g.parent (λ p. p < m)
    → ParentsBelow n (gs ++ g ∷ [])
parents-append [] g n m e h k = (subst (λ j. IfSome g.parent (λ p. p < j)) (omega arith) k, tt)
parents-append (x ∷ gs) g n m e h k = (h.0, parents-append gs g (n + 1) m (omega arith) h.1 k)

-- ---- one more individual is counted

-- what counting one of the code leaves, where the list was gs and is hs
pub record Counts (code : List ℕ) (gs hs : List Genotype) (k : ℕ) : Type 0 where
  pub among : k < length hs
  pub longer : length gs ≤ length hs
  pub few : length hs ≤ length gs + 1
  pub coded : (genotype_at hs k).code ≡ code
  pub codes : (j : ℕ) → j < length gs → (genotype_at hs j).code ≡ (genotype_at gs j).code
  pub same : (genotype_at hs k).total ≡ (genotype_at gs k).total + 1
  pub other : (j : ℕ) → j ≢ k → (genotype_at hs j).total ≡ (genotype_at gs j).total

one_if-same : (code : List ℕ) (gs : List Genotype) → genotype_number code gs ≡ None → (c : List ℕ) → times_coded gs c ≤ 1
    → times_coded gs c + one_if (bytes_eq code c) ≤ 1
one_if-same code gs e c h = go (bytes_eq code c) refl
  where
    go : (b : Bool) → bytes_eq code c ≡ b → times_coded gs c + one_if b ≤ 1
    go false t = omega arith
    go true t =
        let same : code ≡ c = (bytes_eq-Decides code c).0 t in
        let none : times_coded gs c ≡ 0 = subst (λ (d : List ℕ). times_coded gs d ≡ 0) same (genotype_number-none code gs e) in
        omega arith

pub with_individual-listed : (t : ℕ) (gs : List Genotype) (code : List ℕ) (parent : Option ℕ) (q : ℕ) → IsCode code → IfSome parent (λ p. p < length gs)
    → Listed t gs
    → Listed (t + 1) (with_individual gs code parent q).0 × Counts code gs (with_individual gs code parent q).0 (with_individual gs code parent q).1
unfolding with_individual
with_individual-listed t gs code parent q c p l = go (genotype_number code gs) refl
  where
    g : Genotype
    g = record { code = code; parent = parent; first_quantum = q; total = 1; first_effort = None; second_effort = None }

    after : Option ℕ → List Genotype × ℕ
    after o = elim o [ None ↦ (gs ++ g ∷ [], length gs) | Some k ↦ (with_one_more k gs, k) ]

    go : (o : Option ℕ) → genotype_number code gs ≡ o → Listed (t + 1) (after o).0 × Counts code gs (after o).0 (after o).1
    go None e = (
      record {
        once = λ d. (let r = one_if-same code gs e d (l.once d) in omega (arith, sum_of-append (λ (x : Genotype). one_if (bytes_eq x.code d)) gs (g ∷ [])));
        written = All-push (λ (x : Genotype). IsCode x.code) gs g l.written c;
        parents = parents-append gs g 0 (length gs) (omega arith) l.parents p;
        totals = All-push (AtMost (t + 1)) gs g (totals-weaker t (t + 1) gs (omega arith) l.totals) (omega arith);
        efforts = All-push HasEfforts gs g l.efforts (tt, tt);
      },
      record {
        among = omega (arith, length-append gs (g ∷ []));
        longer = omega (arith, length-append gs (g ∷ []));
        few = omega (arith, length-append gs (g ∷ []));
        coded = ap (λ (x : Genotype). x.code) (genotype_at-last gs g);
        codes = λ j h. ap (λ (x : Genotype). x.code) (genotype_at-append gs (g ∷ []) j h);
        same = ap (λ (x : Genotype). x.total) (genotype_at-last gs g)
            ∙ sym (ap (λ (x : Genotype). x.total + 1) (genotype_at-past gs (length gs) (omega arith)));
        other = λ j n. new_other gs g j n;
      },
    )
      where
        new_other : (gs : List Genotype) (g : Genotype) (j : ℕ) → j ≢ length gs → (genotype_at (gs ++ g ∷ []) j).total ≡ (genotype_at gs j).total
        new_other [] g zero n = absurd (n refl)
        new_other [] g (suc j) n = refl
        new_other (x ∷ gs) g zero n = refl
        new_other (x ∷ gs) g (suc j) n = new_other gs g j (λ e. n (ap (λ (n : ℕ). suc n) e))
    go (Some k) e =
        let r = genotype_number-some code gs k e in (
          record {
            once = λ d. (let same = times_coded-with_one_more k gs d in let o = l.once d in omega arith);
            written = written-with_one_more k gs l.written;
            parents = parents-with_one_more k gs 0 l.parents;
            totals = totals-with_one_more t k gs l.totals;
            efforts = efforts-with_one_more k gs l.efforts;
          },
          record {
            among = omega (arith, r.0, length-with_one_more k gs);
            longer = omega (arith, length-with_one_more k gs);
            few = omega (arith, length-with_one_more k gs);
            coded = code-with_one_more k gs k ∙ r.1;
            codes = λ j h. code-with_one_more k gs j;
            same = total-one_more_same k gs r.0;
            other = λ j n. total-one_more_other k gs j n;
          },
        )
