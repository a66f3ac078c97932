-- The savings of one quantum follow each other, and the groups below a quantum are those of the savings before it.
use Rattle.std.proofs.Common.{◌≡◌, ◌≢◌, ◌∙◌, ℕ, zero, suc, ◌+◌, ◌≤◌, Bool, true, false, List, [], ◌∷◌, ◌++◌, refl, sym, ap, arith, inl, inr}
use Rattle.std.proofs.lemmas.Bool.Decides.{eqb_tells, nat_tests}
use Rattle.std.proofs.lemmas.List.{append-nil}
use Rattle.std.proofs.lemmas.List.Elements.{All-head, All-tail, filter_passes}
use Rattle.std.specs.Prelude.{All, filter, if◌then◌else◌, map, nat_lt, ◌==◌}
use Rattle.tierra_model.specs.Genebank.{group_if_any, groups_below, groups_of, saved_in, saved_of}
use Rattle.tierra_model.specs.Groups.{GroupFields}
use Rattle.tierra_model.specs.Sound.{IsSound, Rising}
use Rattle.tierra_model.specs.World.{Genotype, Saving, World}
use Rattle.tierra_model.proofs.BankIsGroups.{of_quantum}
use Rattle.world_core.specs.Groups.{group_of, grouped, with_saving}

-- ---- savings of one quantum before others

abbrev pub IsOf : ℕ → Saving → Type 0
IsOf q s = s.quantum ≡ q

-- the first, if there is one, is not of the quantum
abbrev pub BeginsOther : ℕ → List Saving → Type 0
BeginsOther q [] = Unit {0}
BeginsOther q (s ∷ rest) = s.quantum ≢ q

abbrev GroupOther : ℕ → List GroupFields → Type 0
GroupOther q [] = Unit {0}
GroupOther q (g ∷ groups) = g.quantum ≢ q

saving-other : (gs : List Genotype) (s : Saving) (groups : List GroupFields) (q : ℕ) → s.quantum ≢ q → GroupOther q (with_saving gs s groups)
saving-other gs s [] q n = n
saving-other gs s (g ∷ groups) q n = elim (eqb_tells g.quantum s.quantum) [
  | inl e ↦ rw (e.0) (λ same. n (sym e.1 ∙ same))
  | inr e ↦ rw (e.0) n
]

grouped-other : (gs : List Genotype) (rest : List Saving) (q : ℕ) → BeginsOther q rest → GroupOther q (grouped gs rest)
grouped-other gs [] q h = tt
grouped-other gs (s ∷ rest) q h = saving-other gs s (grouped gs rest) q h

one-other : (gs : List Genotype) (s : Saving) (groups : List GroupFields) (q : ℕ) → s.quantum ≡ q → GroupOther q groups
    → with_saving gs s groups ≡ group_of gs q (s ∷ []) ∷ groups
one-other gs s [] q e h = ap (λ (n : ℕ). group_of gs n (s ∷ []) ∷ []) e
one-other gs s (g ∷ groups) q e h = elim (eqb_tells g.quantum s.quantum) [
  | inl k ↦ absurd (h (k.1 ∙ e))
  | inr k ↦ rw (k.0) (ap (λ (n : ℕ). group_of gs n (s ∷ []) ∷ g ∷ groups) e)
]

one-more : (gs : List Genotype) (s : Saving) (q : ℕ) (run : List Saving) (groups : List GroupFields) → s.quantum ≡ q
    → with_saving gs s (group_of gs q run ∷ groups) ≡ group_of gs q (s ∷ run) ∷ groups
one-more gs s q run groups e = elim (eqb_tells q s.quantum) [
  | inl k ↦ rw (k.0) refl
  | inr k ↦ absurd (k.1 (sym e))
]

-- a run of savings is the first group
pub run-grouped : (gs : List Genotype) (q : ℕ) (s : Saving) (run rest : List Saving) → All (IsOf q) (s ∷ run) → BeginsOther q rest
    → grouped gs ((s ∷ run) ++ rest) ≡ group_of gs q (s ∷ run) ∷ grouped gs rest
run-grouped gs q s [] rest one other = one-other gs s (grouped gs rest) q (All-head (IsOf q) s [] one) (grouped-other gs rest q other)
run-grouped gs q s (t ∷ run) rest one other =
    ap (with_saving gs s) (run-grouped gs q t run rest (All-tail (IsOf q) s (t ∷ run) one) other)
    ∙ one-more gs s q (t ∷ run) (grouped gs rest) (All-head (IsOf q) s (t ∷ run) one)

-- ---- savings of one quantum after others

abbrev IsOther : ℕ → Saving → Type 0
IsOther q s = s.quantum ≢ q

last-group : (gs : List Genotype) (s : Saving) (groups : List GroupFields) (g : GroupFields) → s.quantum ≢ g.quantum
    → with_saving gs s (groups ++ g ∷ []) ≡ with_saving gs s groups ++ g ∷ []
last-group gs s [] g n = elim (eqb_tells g.quantum s.quantum) [
  | inl k ↦ absurd (n (sym k.1))
  | inr k ↦ rw (k.0) refl
]
last-group gs s (h ∷ groups) g n = go (h.quantum == s.quantum)
  where
    go : (b : Bool)
        → (if b then record h { saved = saved_of gs s ∷ h.saved } ∷ (groups ++ g ∷ []) else group_of gs s.quantum (s ∷ []) ∷ h ∷ (groups ++ g ∷ []))
        ≡ (if b then record h { saved = saved_of gs s ∷ h.saved } ∷ groups else group_of gs s.quantum (s ∷ []) ∷ h ∷ groups) ++ g ∷ []
    go true = refl
    go false = refl

run-last : (gs : List Genotype) (q : ℕ) (xs : List Saving) (s : Saving) (run : List Saving) → All (IsOther q) xs → All (IsOf q) (s ∷ run)
    → grouped gs (xs ++ s ∷ run) ≡ grouped gs xs ++ group_of gs q (s ∷ run) ∷ []
run-last gs q [] s run others one = ap (grouped gs) (sym (append-nil (s ∷ run))) ∙ run-grouped gs q s run [] one tt
run-last gs q (x ∷ xs) s run others one =
    ap (with_saving gs x) (run-last gs q xs s run (All-tail (IsOther q) x xs others) one)
    ∙ last-group gs x (grouped gs xs) (group_of gs q (s ∷ run)) (All-head (IsOther q) x xs others)

group-last : (gs : List Genotype) (q : ℕ) (xs run : List Saving) → All (IsOther q) xs → All (IsOf q) run
    → grouped gs (xs ++ run) ≡ grouped gs xs ++ group_if_any q (map (saved_of gs) run)
group-last gs q xs [] others one = ap (grouped gs) (append-nil xs) ∙ sym (append-nil (grouped gs xs))
group-last gs q xs (s ∷ run) others one = run-last gs q xs s run others one

-- ---- savings whose quanta never fall

abbrev below : ℕ → List Saving → List Saving
below q saved = filter (λ s. nat_lt s.quantum q) saved

none-below : (q low : ℕ) (saved : List Saving) → Rising low saved → q ≤ low → below q saved ≡ []
none-below q low [] r h = refl
none-below q low (s ∷ rest) r h =
    let first : low ≤ s.quantum = r.0 in
    let ih : below q rest ≡ [] = none-below q s.quantum rest r.1 (omega arith) in
    grind (arith, nat_tests)

split-below : (q low : ℕ) (saved : List Saving) → Rising low saved → below (suc q) saved ≡ below q saved ++ of_quantum q saved
split-below q low [] r = refl
split-below q low (s ∷ rest) r = go (nat_lt s.quantum q) refl (split-below q s.quantum rest r.1)
  where
    go : (b : Bool) → nat_lt s.quantum q ≡ b → below (suc q) rest ≡ below q rest ++ of_quantum q rest
        → below (suc q) (s ∷ rest) ≡ below q (s ∷ rest) ++ of_quantum q (s ∷ rest)
    go true e ih = grind (arith, nat_tests)
    go false e ih =
        let past : q ≤ s.quantum = grind (arith, nat_tests) in
        let gone : below q rest ≡ [] = none-below q s.quantum rest r.1 past in
        grind (arith, nat_tests)

below-other : (q : ℕ) (saved : List Saving) → All (IsOther q) (below q saved)
below-other q saved i d h =
    let passes = filter_passes (λ (s : Saving). nat_lt s.quantum q) saved i d h in
    λ same. grind (arith, nat_tests)

of_quantum-one : (q : ℕ) (saved : List Saving) → All (IsOf q) (of_quantum q saved)
of_quantum-one q saved i d h = (let passes = filter_passes (λ (s : Saving). s.quantum == q) saved i d h in grind (arith, nat_tests))

all-below : (q : ℕ) (saved : List Saving) → All (λ s. s.quantum ≤ q) saved → below (suc q) saved ≡ saved
all-below q [] a = refl
all-below q (s ∷ rest) a =
    let first : s.quantum ≤ q = All-head (λ (t : Saving). t.quantum ≤ q) s rest a in
    let ih : below (suc q) rest ≡ rest = all-below q rest (All-tail (λ (t : Saving). t.quantum ≤ q) s rest a) in
    grind (arith, nat_tests)

groups_below-grouped : (w : World) (m : ℕ) → Rising 0 w.saved → groups_below w m ≡ grouped w.genotypes (below m w.saved)
groups_below-grouped w zero r = ap (grouped w.genotypes) (sym (none-below 0 0 w.saved r (omega arith)))
groups_below-grouped w (suc q) r =
    ap (λ (l : List GroupFields). l ++ group_if_any q (saved_in q w)) (groups_below-grouped w q r)
    ∙ sym (group-last w.genotypes q (below q w.saved) (of_quantum q w.saved) (below-other q w.saved) (of_quantum-one q w.saved))
    ∙ ap (grouped w.genotypes) (sym (split-below q 0 w.saved r))

-- the groups of a world are those of its savings
pub groups_of-grouped : (w : World) → IsSound w → groups_of w ≡ grouped w.genotypes w.saved
groups_of-grouped w s =
    let next : w.quanta + 1 ≡ suc w.quanta = omega arith in
    ap (groups_below w) next ∙ groups_below-grouped w (suc w.quanta) s.rising ∙ ap (grouped w.genotypes) (all-below w.quanta w.saved s.past)
