-- The groups of a run's world are the genebank of its setup.
use Rattle.std.proofs.Common.{◌≡◌, ℕ, zero, suc, ◌+◌, ◌<◌, ◌≤◌, Bool, true, false, cond, List, [], ◌∷◌, ◌++◌, refl, ◌∙◌, ap, subst, arith, inl, inr, length}
use Rattle.std.specs.Prelude.{Some, None, Option, IfSome, All, map, filter, option_map, ◌==◌, if◌then◌else◌}
use Rattle.std.proofs.lemmas.Bool.Decides.{eqb_tells}
use Rattle.std.proofs.lemmas.List.Elements.{All-head, All-tail}
use Rattle.tierra_model.specs.declared.limits.TheConstants.{MOST_QUANTA}
use Rattle.tierra_model.specs.declared.genebank.Saved.{Saved}
use Rattle.tierra_model.specs.declared.genebank.Name.{Name}
use Rattle.tierra_model.specs.Laws.{BankIsGroups}
use Rattle.tierra_model.specs.Quantum.{world_machine, run, quantum, slice_of}
use Rattle.tierra_model.specs.World.{World, Genotype, Saving, front, genotype_at}
use Rattle.tierra_model.specs.Sound.{IsSound, ParentsBelow}
use Rattle.tierra_model.specs.Setups.{SetupFields, IsSetup}
use Rattle.tierra_model.specs.Serial.{serial}
use Rattle.tierra_model.specs.Genebank.{number_before, name_of, saved_of, saved_in, group_if_any, bank, groups_below}
use Rattle.tierra_model.proofs.Sound.{sound-saved_below}
use Rattle.tierra_model.proofs.StartIsSound.{serial_is_sound}
use Rattle.tierra_model.proofs.GenotypesStay.{Extends, AddsSavings, SavedIn, adds-run}

-- ---- names stay

number_before-same : (size : ℕ) (gs hs : List Genotype) (k : ℕ) → k ≤ length gs → Extends gs hs → number_before size hs k ≡ number_before size gs k
number_before-same size gs hs zero h e = refl
number_before-same size [] hs (suc k) h e = absurd (omega arith)
number_before-same size (g ∷ gs) [] (suc k) h e = absurd (omega (arith, e.longer))
number_before-same size (g ∷ gs) (x ∷ hs) (suc k) h e =
    let first : x.code ≡ g.code = e.codes 0 (omega arith) in
    let rest = number_before-same size gs hs k (omega arith) (record {
      longer = omega (arith, e.longer);
      codes = λ j l. e.codes (suc j) (omega arith);
      parents = λ j l. e.parents (suc j) (omega arith);
    }) in
    (λ i. (if length (first i) == size then 1 else 0) + rest i)

name_of-same : (gs hs : List Genotype) (k : ℕ) → k < length gs → Extends gs hs → name_of hs k ≡ name_of gs k
name_of-same gs hs k h e =
    let code = e.codes k h in
    let rank : number_before (length (genotype_at hs k).code) hs k ≡ number_before (length (genotype_at gs k).code) gs k =
    ap (λ (c : List ℕ). number_before (length c) hs k) code ∙ number_before-same (length (genotype_at gs k).code) gs hs k (omega arith) e in
    (λ i. let n : Name = record { size = length (code i); rank = rank i } in n)

pub parent_at : (n : ℕ) (gs : List Genotype) (k : ℕ) → k < length gs → ParentsBelow n gs → IfSome (genotype_at gs k).parent (λ p. p < n + k)
parent_at n [] k h b = absurd (omega arith)
parent_at n (g ∷ gs) zero h b = subst (λ m. IfSome g.parent (λ p. p < m)) (omega arith) b.0
parent_at n (g ∷ gs) (suc k) h b = subst (λ m. IfSome (genotype_at gs k).parent (λ p. p < m)) (omega arith) (parent_at (n + 1) gs k (omega arith) b.1)

parent-same : (gs hs : List Genotype) (k : ℕ) (o : Option ℕ) → k < length gs → Extends gs hs → IfSome o (λ p. p < k)
    → option_map (name_of hs) o ≡ option_map (name_of gs) o
parent-same gs hs k None h e b = refl
parent-same gs hs k (Some p) h e b = ap (λ (n : Name). Some n) (name_of-same gs hs p (omega arith) e)

saved_of-same : (gs hs : List Genotype) (s : Saving) → s.genotype < length gs → Extends gs hs → ParentsBelow 0 gs → saved_of hs s ≡ saved_of gs s
saved_of-same gs hs s h e b =
    let k : ℕ = s.genotype in
    let name = name_of-same gs hs k h e in
    let code = e.codes k h in
    let parent : option_map (name_of hs) (genotype_at hs k).parent ≡ option_map (name_of gs) (genotype_at gs k).parent =
    ap (λ (o : Option ℕ). option_map (name_of hs) o) (e.parents k h) ∙ parent-same gs hs k (genotype_at gs k).parent h e
    (subst (λ m. IfSome (genotype_at gs k).parent (λ p. p < m)) (omega arith) (parent_at 0 gs k h b)) in
    (λ i. let x : Saved = record { name = name i; parent = parent i; first = s.first_effort; second = s.second_effort; code = code i } in x)

-- ---- what a quantum saved stays

abbrev pub Among : ℕ → Saving → Type 0
Among n s = s.genotype < n

abbrev pub of_quantum : ℕ → List Saving → List Saving
of_quantum q saved = filter (λ s. s.quantum == q) saved

all_same : (q : ℕ) (gs hs : List Genotype) (saved : List Saving) → All (Among (length gs)) saved → Extends gs hs → ParentsBelow 0 gs
    → map (saved_of hs) (of_quantum q saved) ≡ map (saved_of gs) (of_quantum q saved)
all_same q gs hs [] a e b = refl
all_same q gs hs (s ∷ rest) a e b =
    go (s.quantum == q) (saved_of-same gs hs s (All-head (Among (length gs)) s rest a) e b) (all_same q gs hs rest (All-tail (Among (length gs)) s rest a) e b)
  where
    go : (c : Bool) → saved_of hs s ≡ saved_of gs s → map (saved_of hs) (of_quantum q rest) ≡ map (saved_of gs) (of_quantum q rest)
        → map (saved_of hs) (cond c (s ∷ of_quantum q rest) (of_quantum q rest)) ≡ map (saved_of gs) (cond c (s ∷ of_quantum q rest) (of_quantum q rest))
    go true h t = (λ i. h i ∷ t i)
    go false h t = t

-- later savings are of another quantum
none_of : (q n : ℕ) (added : List Saving) → q < n → All (SavedIn n) added → of_quantum q added ≡ []
none_of q n [] h a = refl
none_of q n (s ∷ rest) h a =
    let first : s.quantum ≡ n = All-head (SavedIn n) s rest a in
    elim (eqb_tells s.quantum q) [
      | inl e ↦ absurd (omega (arith, e.1))
      | inr e ↦ ap (λ (c : Bool). cond c (s ∷ of_quantum q rest) (of_quantum q rest)) e.0 ∙ none_of q n rest h (All-tail (SavedIn n) s rest a)
    ]

cond_cons : {X : Type 0} (c : Bool) (x : X) (xs ys : List X) → xs ≡ ys → cond c (x ∷ xs) xs ≡ cond c (x ∷ ys) ys
cond_cons c x xs ys e = (λ i. cond c (x ∷ e i) (e i))

of_quantum-old : (q n : ℕ) (saved added : List Saving) → q < n → All (SavedIn n) added → of_quantum q (saved ++ added) ≡ of_quantum q saved
of_quantum-old q n [] added h a = none_of q n added h a
of_quantum-old q n (s ∷ rest) added h a =
    cond_cons (s.quantum == q) s (of_quantum q (rest ++ added)) (of_quantum q rest) (of_quantum-old q n rest added h a)

saved_in-old : (q n : ℕ) (w v : World) → IsSound w → AddsSavings n w v → q < n → saved_in q v ≡ saved_in q w
saved_in-old q n w v s g h =
    ap (λ (l : List Saving). map (saved_of v.genotypes) (of_quantum q l)) g.saved
    ∙ ap (λ (l : List Saving). map (saved_of v.genotypes) l) (of_quantum-old q n w.saved g.added h g.new)
    ∙ all_same q w.genotypes v.genotypes w.saved (sound-saved_below w s) g.genotypes s.parents

groups_below-old : (m n : ℕ) (w v : World) → IsSound w → AddsSavings n w v → m ≤ n → groups_below v m ≡ groups_below w m
groups_below-old zero n w v s g h = refl
groups_below-old (suc q) n w v s g h =
    let rest = groups_below-old q n w v s g (omega arith) in
    let one = saved_in-old q n w v s g (omega arith) in
    (λ i. rest i ++ group_if_any q (one i))

-- ---- the genebank

quantum_below : (m : ℕ) (w : World) → IsSound w → m ≤ w.quanta + 1 → groups_below (quantum w) m ≡ groups_below w m
unfolding quantum
quantum_below m w s h =
    let q : ℕ = w.quanta + 1 in
    let k : ℕ = slice_of (front w).own.size w.settings in
    groups_below-old m q w (run world_machine w.settings q k w) s (adds-run w.settings q k w refl) h

serial_below : (setup : SetupFields) (n : ℕ) → IsSetup setup → n ≤ MOST_QUANTA → groups_below (serial setup n) n ≡ bank setup n
unfolding serial bank
serial_below setup zero h few = refl
serial_below setup (suc n) h few =
    let w : World = serial setup n in
    let r = serial_is_sound setup n h (omega arith) in
    quantum_below (suc n) w r.sound (omega (arith, r.quanta))
    ∙ ap (λ (l : List _). l ++ group_if_any n (saved_in n w)) (serial_below setup n h (omega arith))

pub bank_is_groups : BankIsGroups
unfolding bank
bank_is_groups setup n h few =
    let w : World = serial setup n in
    let r = serial_is_sound setup n h few in
    let last : w.quanta + 1 ≡ suc n = omega (arith, r.quanta) in
    let next : suc n ≡ n + 1 = omega arith in
    ap (λ (m : ℕ). groups_below w m) last
    ∙ ap (λ (l : List _). l ++ group_if_any n (saved_in n w)) (serial_below setup n h few)
    ∙ ap (bank setup) next
