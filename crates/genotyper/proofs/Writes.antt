-- The genotypes after what is kept of one is written anew.
use Rattle.std.proofs.Common.{◌≡◌, ℕ, zero, suc, ◌+◌, List, [], ◌∷◌, refl, sym, ◌∙◌, ap, slice_get, length}
use Rattle.std.specs.Prelude.{Some, if◌then◌else◌, ◌==◌}
use Rattle.std.specs.Map.{values_of}
use Rattle.indexmap.specs.Layout.{length-set_value_at, set_value_at}
use Rattle.tierra_model.specs.declared.creatures.Effort.{Effort}
use Rattle.tierra_model.specs.Genebank.{number_before}
use Rattle.tierra_model.specs.Individuals.{with_effort, with_effort_of, with_one_more}
use Rattle.genotyper.specs.declared.genotypes.Details.{Details}
use Rattle.genotyper.specs.Genotypes.{IsRanked, genotype_of, genotypes_of}

abbrev pub Entry : Type 0
Entry = List ℕ × Details

abbrev pub Entries : Type 0
Entries = List Entry

pub same_entry : (a b : Entry) → Some a ≡ Some b → a ≡ b
same_entry a b h = cc

-- the effort of genotype i
pub genotypes-with_effort : (es : Entries) (i bred : ℕ) (e : Effort) (d w : Details) → slice_get (values_of es) i ≡ Some d
    → ((code : List ℕ) → genotype_of (code, w) ≡ with_effort bred e (genotype_of (code, d)))
    → genotypes_of (set_value_at es i w) ≡ with_effort_of i bred e (genotypes_of es)
genotypes-with_effort [] i bred e d w at h = refl
genotypes-with_effort (x ∷ xs) zero bred e d w at h =
    let same : x.1 ≡ d = cc in
    ap (λ g. g ∷ genotypes_of xs) (h x.0 ∙ ap (λ y. with_effort bred e (genotype_of (x.0, y))) (sym same))
genotypes-with_effort (x ∷ xs) (suc i) bred e d w at h = ap (λ gs. genotype_of x ∷ gs) (genotypes-with_effort xs i bred e d w at h)

-- one more individual of genotype i
pub genotypes-with_one_more : (es : Entries) (i : ℕ) (d : Details) → slice_get (values_of es) i ≡ Some d
    → genotypes_of (set_value_at es i (record d { total = d.total + 1 })) ≡ with_one_more i (genotypes_of es)
genotypes-with_one_more [] i d at = refl
genotypes-with_one_more (x ∷ xs) zero d at =
    let same : x.1 ≡ d = cc in
    ap (λ y. genotype_of (x.0, record y { total = y.total + 1 }) ∷ genotypes_of xs) (sym same)
genotypes-with_one_more (x ∷ xs) (suc i) d at = ap (λ gs. genotype_of x ∷ gs) (genotypes-with_one_more xs i d at)

-- the codes stay
pub number_before-written : (es : Entries) (i : ℕ) (w : Details) (size k : ℕ)
    → number_before size (genotypes_of (set_value_at es i w)) k ≡ number_before size (genotypes_of es) k
number_before-written [] i w size k = refl
number_before-written (x ∷ xs) zero w size zero = refl
number_before-written (x ∷ xs) zero w size (suc k) = refl
number_before-written (x ∷ xs) (suc i) w size zero = refl
number_before-written (x ∷ xs) (suc i) w size (suc k) =
    ap (λ n. (if length x.0 == size then 1 else 0) + n) (number_before-written xs i w size k)

written_at : (es : Entries) (i : ℕ) (d w : Details) → slice_get (values_of es) i ≡ Some d → w.rank ≡ d.rank
    → (k : ℕ) (code : List ℕ) (v : Details) → slice_get (set_value_at es i w) k ≡ Some (code, v)
    → (u : Details) × (slice_get es k ≡ Some (code, u)) × (v.rank ≡ u.rank)
written_at [] i d w at same k code v h = cc
written_at (x ∷ xs) zero d w at same zero code v h =
    let kept : x.1 ≡ d = cc in
    let both : (x.0, w) ≡ (code, v) = same_entry (x.0, w) (code, v) h in
    let written : w ≡ v = ap (λ (e : Entry). e.1) both in
    let here : x.0 ≡ code = ap (λ (e : Entry). e.0) both in
    (x.1, ap (λ c. Some (c, x.1)) here, sym (ap (λ y. y.rank) written) ∙ same ∙ sym (ap (λ y. y.rank) kept))
written_at (x ∷ xs) zero d w at same (suc k) code v h = (v, h, refl)
written_at (x ∷ xs) (suc i) d w at same zero code v h = (v, h, refl)
written_at (x ∷ xs) (suc i) d w at same (suc k) code v h = written_at xs i d w at same k code v h

-- the ranks and the counts stay
pub ranked-written : (es : Entries) (count : ℕ → ℕ) (i : ℕ) (d w : Details) → slice_get (values_of es) i ≡ Some d → w.rank ≡ d.rank
    → IsRanked es count → IsRanked (set_value_at es i w) count
ranked-written es count i d w at same r =
    record {
      short = λ k code v h. let (u, was, _) = written_at es i d w at same k code v h in r.short k code u was;
      ranks = λ k code v h.
          let (u, was, rank) = written_at es i d w at same k code v h in
          rank ∙ r.ranks k code u was ∙ sym (number_before-written es i w (length code) k);
      counts = λ size. r.counts size ∙ sym (number_before-written es i w size (length es)) ∙ ap (number_before size (genotypes_of (set_value_at es i w)))
          (sym (length-set_value_at es i w));
    }

pub ruleset written = (genotypes-with_effort, ranked-written)
