-- The number of an individual's genotype is in the list; and an effort changes no total.
use Rattle.std.proofs.Common.{◌≡◌, ℕ, zero, suc, ◌<◌, Bool, true, false, List, [], ◌∷◌, ◌++◌, refl, arith, length, length-append}
use Rattle.std.specs.Prelude.{All, None, Option, Some, if◌then◌else◌, option_map}
use Rattle.std.specs.Str.{bytes_eq}
use Rattle.tierra_model.specs.World.{Genotype}
use Rattle.std.proofs.lemmas.List.Elements.{All-cons, All-head, All-tail}
use Rattle.tierra_model.specs.declared.creatures.Effort.{Effort}
use Rattle.tierra_model.specs.Individuals.{genotype_number, with_effort, with_effort_of, with_individual, with_one_more}
use Rattle.tierra_model.proofs.Genotypes.{length-with_one_more}

among : (code : List ℕ) (gs : List Genotype) (k : ℕ) → genotype_number code gs ≡ Some k → k < length gs
among code [] k e = cc
among code (g ∷ gs) k e = go (bytes_eq g.code code) (genotype_number code gs) (among code gs) e
  where
    go : (b : Bool) (o : Option ℕ) → ((j : ℕ) → o ≡ Some j → j < length gs)
        → (if b then Some 0 else option_map suc o) ≡ Some k → k < suc (length gs)
    go true o ih h = (let first : 0 ≡ k = cc in omega arith)
    go false None ih h = cc
    go false (Some j) ih h = (let next : suc j ≡ k = cc in omega (arith, ih j refl))

pub number_among : (gs : List Genotype) (code : List ℕ) (parent : Option ℕ) (q : ℕ)
    → (with_individual gs code parent q).1 < length (with_individual gs code parent q).0
unfolding with_individual
number_among gs code parent q = go (genotype_number code gs) refl
  where
    g : Genotype
    g = record { code = code; parent = parent; first_quantum = q; total = 1; first_effort = None; second_effort = None }

    after : Option ℕ → List Genotype × ℕ
    after o = elim o [ None ↦ (gs ++ g ∷ [], length gs) | Some k ↦ (with_one_more k gs, k) ]

    go : (o : Option ℕ) → genotype_number code gs ≡ o → (after o).1 < length (after o).0
    go None e = omega (arith, length-append gs (g ∷ []))
    go (Some k) e = omega (arith, among code gs k e, length-with_one_more k gs)

abbrev TotalBelow : ℕ → Genotype → Type 0
TotalBelow t g = g.total < t

pub totals-with_effort : (t k bred : ℕ) (e : Effort) (gs : List Genotype) → All (TotalBelow t) gs → All (TotalBelow t) (with_effort_of k bred e gs)
totals-with_effort t k bred e [] h = h
totals-with_effort t zero bred e (g ∷ gs) h = All-cons (TotalBelow t) (with_effort bred e g) gs (All-head (TotalBelow t) g gs h)
    (All-tail (TotalBelow t) g gs h)
totals-with_effort t (suc k) bred e (g ∷ gs) h =
    All-cons (TotalBelow t) g (with_effort_of k bred e gs) (All-head (TotalBelow t) g gs h) (totals-with_effort t k bred e gs (All-tail (TotalBelow t) g gs h))
