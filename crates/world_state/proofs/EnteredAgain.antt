-- Genotypes that are put in again, and whether two have the same code.
use Rattle.std.proofs.Common.{◌≡◌, ◌∙◌, ℕ, zero, suc, ◌+◌, ◌<◌, ◌≤◌, Bool, List, [], ◌∷◌, ◌++◌, None, Some, Option, refl, sym, ap, subst, arith, get_or, length}
use Rattle.std.proofs.Common.{take, true, false}
use Rattle.std.specs.Prelude.{if◌then◌else◌, option_map}
use Rattle.std.specs.Str.{bytes_eq}
use Rattle.std.proofs.lemmas.Slice.Eq.{bytes_eq-Decides}
use Rattle.tierra_model.specs.declared.creatures.Effort.{Effort}
use Rattle.tierra_model.specs.Counting.{one_if}
use Rattle.tierra_model.specs.Individuals.{genotype_number, with_effort, with_effort_of}
use Rattle.tierra_model.specs.Sound.{times_coded}
use Rattle.tierra_model.specs.World.{Genotype}
use Rattle.tierra_model.proofs.Owners.{sum_of-append}
use Rattle.genotyper.specs.Genotypes.{new_genotype}
use Rattle.world_state.specs.declared.fields.StoredGenotype.{StoredGenotype}
use Rattle.world_state.specs.Checks.{noted}
use Rattle.world_state.specs.Reading.{genotype_of, genotypes_of}

last-noted : (bred : ℕ) (e : Effort) (gs : List Genotype) (g : Genotype)
    → with_effort_of (length gs) bred e (gs ++ g ∷ []) ≡ gs ++ with_effort bred e g ∷ []
last-noted bred e [] g = refl
last-noted bred e (x ∷ gs) g = ap (λ (l : List Genotype). x ∷ l) (last-noted bred e gs g)

pub entered : (gs : List Genotype) (f : StoredGenotype)
    → noted (length gs) 2 f.second_effort (noted (length gs) 1 f.first_effort (gs ++ new_genotype f.code f.parent f.first_quantum f.total ∷ []))
    ≡ gs ++ genotype_of f ∷ []
entered gs f = go f.first_effort f.second_effort
  where
    go : (first second : Option Effort)
        → noted (length gs) 2 second (noted (length gs) 1 first (gs ++ new_genotype f.code f.parent f.first_quantum f.total ∷ []))
        ≡ gs ++ (record {
          code = f.code;
          parent = f.parent;
          first_quantum = f.first_quantum;
          total = f.total;
          first_effort = first;
          second_effort = second;
        }) ∷ []
    go None None = refl
    go (Some e) None = last-noted 1 e gs (new_genotype f.code f.parent f.first_quantum f.total)
    go None (Some e) = last-noted 2 e gs (new_genotype f.code f.parent f.first_quantum f.total)
    go (Some d) (Some e) =
        ap (with_effort_of (length gs) 2 e) (last-noted 1 d gs (new_genotype f.code f.parent f.first_quantum f.total))
        ∙ last-noted 2 e gs (with_effort 1 d (new_genotype f.code f.parent f.first_quantum f.total))

-- ---- codes

-- a code that no genotype has, and one that some genotype has
pub coded-none : (code : List ℕ) (gs : List Genotype) → genotype_number code gs ≡ None → times_coded gs code ≡ 0
coded-none code [] e = refl
coded-none code (g ∷ gs) e = go (bytes_eq g.code code) (genotype_number code gs) e (coded-none code gs)
  where
    go : (b : Bool) (o : Option ℕ) → (if b then Some 0 else option_map suc o) ≡ None → (o ≡ None → times_coded gs code ≡ 0)
        → one_if b + times_coded gs code ≡ 0
    go true o e h = absurd cc
    go false None e h = omega (arith, h refl)
    go false (Some k) e h = absurd cc

pub coded-some : (code : List ℕ) (gs : List Genotype) → (genotype_number code gs ≡ None → ⊥) → 0 < times_coded gs code
coded-some code [] e = absurd (e refl)
coded-some code (g ∷ gs) e = go (bytes_eq g.code code) (genotype_number code gs) e (coded-some code gs)
  where
    go : (b : Bool) (o : Option ℕ) → ((if b then Some 0 else option_map suc o) ≡ None → ⊥) → ((o ≡ None → ⊥) → 0 < times_coded gs code)
        → 0 < one_if b + times_coded gs code
    go true o e h = omega arith
    go false None e h = absurd (e refl)
    go false (Some k) e h = (let some = h (λ none. absurd cc) in omega (arith, some))

abbrev pub OnceCoded : List Genotype → Type 0
OnceCoded gs = (code : List ℕ) → times_coded gs code ≤ 1

pub once-none : OnceCoded []
once-none code = omega arith

pub once-more : (gs : List Genotype) (g : Genotype) → OnceCoded gs → times_coded gs g.code ≡ 0 → OnceCoded (gs ++ g ∷ [])
once-more gs g once none code =
    let sum = sum_of-append (λ (x : Genotype). one_if (bytes_eq x.code code)) gs (g ∷ []) in
    let old = once code in
    go (bytes_eq g.code code) (λ e. (let same : g.code ≡ code = (bytes_eq-Decides g.code code).0 e in subst (λ c. times_coded gs c ≡ 0) same none)) old sum
  where
    go : (b : Bool) → (b ≡ true → times_coded gs code ≡ 0) → times_coded gs code ≤ 1
        → times_coded (gs ++ g ∷ []) code ≡ times_coded gs code + (one_if b + 0) → times_coded (gs ++ g ∷ []) code ≤ 1
    go true h old sum = (let n = h refl in omega (arith, n, sum))
    go false h old sum = omega (arith, old, sum)

same-code : (code : List ℕ) → bytes_eq code code ≡ true
same-code code = (bytes_eq-Decides code code).1 refl

part-coded : (code : List ℕ) (fs : List StoredGenotype) (k : ℕ) (d : StoredGenotype) → k < length fs → (get_or fs k d).code ≡ code
    → times_coded (genotypes_of (take k fs)) code + 1 ≤ times_coded (genotypes_of fs) code
part-coded code [] k d lt is = absurd (omega (arith, lt))
part-coded code (f ∷ fs) zero d lt is =
    let yes' : one_if (bytes_eq f.code code) ≡ 1 = ap one_if (subst (λ c. bytes_eq c code ≡ true) (sym is) (same-code code)) in
    omega (arith, yes')
part-coded code (f ∷ fs) (suc k) d lt is =
    let rest = part-coded code fs k d (omega (arith, lt)) is in omega (arith, rest)

pub coded-twice : (code : List ℕ) (fs : List StoredGenotype) (k : ℕ) (d : StoredGenotype) → k < length fs → (get_or fs k d).code ≡ code
    → (genotype_number code (genotypes_of (take k fs)) ≡ None → ⊥) → OnceCoded (genotypes_of fs) → ⊥
coded-twice code fs k d lt is some once =
    let here = coded-some code (genotypes_of (take k fs)) some in
    let more = part-coded code fs k d lt is in
    let most = once code in
    omega (arith, here, more, most)

length-with : (k bred : ℕ) (e : Effort) (gs : List Genotype) → length (with_effort_of k bred e gs) ≡ length gs
length-with k bred e [] = refl
length-with zero bred e (g ∷ gs) = refl
length-with (suc k) bred e (g ∷ gs) = ap suc (length-with k bred e gs)

pub length-noted : (k bred : ℕ) (o : Option Effort) (gs : List Genotype) → length (noted k bred o gs) ≡ length gs
length-noted k bred None gs = refl
length-noted k bred (Some e) gs = length-with k bred e gs

pub length-more : (gs : List Genotype) (g : Genotype) → length gs < length (gs ++ g ∷ [])
length-more [] g = omega arith
length-more (x ∷ gs) g = (let rest = length-more gs g in omega (arith, rest))

next-taken : (fs : List StoredGenotype) (k : ℕ) (d : StoredGenotype) → k < length fs
    → genotypes_of (take (suc k) fs) ≡ genotypes_of (take k fs) ++ genotype_of (get_or fs k d) ∷ []
next-taken [] k d lt = absurd (omega (arith, lt))
next-taken (f ∷ fs) zero d lt = refl
next-taken (f ∷ fs) (suc k) d lt = ap (λ (l : List Genotype). genotype_of f ∷ l) (next-taken fs k d (omega (arith, lt)))

pub one-taken : (fs : List StoredGenotype) (k : ℕ) (d : StoredGenotype) → k < length fs
    → genotypes_of (take (k + 1) fs) ≡ genotypes_of (take k fs) ++ genotype_of (get_or fs k d) ∷ []
one-taken fs k d lt =
    let next : suc k ≡ k + 1 = omega arith in
    subst (λ n. genotypes_of (take n fs) ≡ genotypes_of (take k fs) ++ genotype_of (get_or fs k d) ∷ []) next (next-taken fs k d lt)
