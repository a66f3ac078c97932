-- Where no genotype is saved, no group is added to the genebank.
use Rattle.std.proofs.Common.{◌≡◌, ℕ, zero, suc, ◌+◌, ◌-◌, ◌<◌, ◌≤◌, List, [], ◌∷◌, ◌++◌, refl, ◌∙◌, ap, subst, arith, inl, inr, cond, length, append-nil}
use Rattle.std.proofs.Common.{length-append}
use Rattle.std.specs.Prelude.{All, filter, map, ◌==◌}
use Rattle.std.proofs.lemmas.Bool.Decides.{eqb_tells}
use Rattle.std.proofs.lemmas.List.Elements.{All-head, All-tail}
use Rattle.tierra_model.specs.declared.limits.TheConstants.{MOST_QUANTA}
use Rattle.tierra_model.specs.Genebank.{bank, group_if_any, saved_in, saved_of}
use Rattle.tierra_model.specs.Quantum.{quantum, slice_of}
use Rattle.tierra_model.specs.Serial.{serial}
use Rattle.tierra_model.specs.Setups.{IsSetup, SetupFields}
use Rattle.tierra_model.specs.World.{Saving, World, front}
use Rattle.tierra_model.proofs.GenotypesStay.{adds-run}
use Rattle.tierra_model.proofs.StartIsSound.{serial_is_sound}
use Rattle.crew.specs.Hand.{run_bank}

-- a quantum adds to what was saved
saved-more : (w : World) → (added : List Saving) × ((quantum w).saved ≡ w.saved ++ added)
unfolding quantum
saved-more w =
    let adds = adds-run w.settings (w.quanta + 1) (slice_of (front w).own.size w.settings) w refl in
    (adds.added, adds.saved)

serial-more : (setup : SetupFields) (n : ℕ) → (added : List Saving) × ((serial setup (suc n)).saved ≡ (serial setup n).saved ++ added)
unfolding serial
serial-more setup n = saved-more (serial setup n)

-- later worlds have saved as many or more
pub saved-grows : (setup : SetupFields) (n k : ℕ) → length (serial setup n).saved ≤ length (serial setup (n + k)).saved
saved-grows setup n zero = let e : n ≡ n + 0 = omega arith in omega (arith, ap (λ (m : ℕ). length (serial setup m).saved) e)
saved-grows setup n (suc k) =
    let e : n + suc k ≡ suc (n + k) = omega arith in
    let more = serial-more setup (n + k) in
    omega (arith, saved-grows setup n k, ap length more.1, length-append (serial setup (n + k)).saved more.0, ap (λ (m : ℕ). length (serial setup m).saved) e)

empty_if : {A : Type 0} (xs : List A) → length xs ≡ 0 → xs ≡ []
empty_if [] h = refl
empty_if (x ∷ xs) h = absurd (let n : ⊥ = omega (arith, h) in n)

none_of : (q n : ℕ) (saved : List Saving) → n < q → All (λ s. s.quantum ≤ n) saved → filter (λ s. s.quantum == q) saved ≡ []
none_of q n [] h a = refl
none_of q n (s ∷ rest) h a =
    let first : s.quantum ≤ n = All-head (λ (x : Saving). x.quantum ≤ n) s rest a in
    elim (eqb_tells s.quantum q) [
      | inl e ↦ absurd (omega (arith, e.1, first, h))
      | inr e ↦ ap (λ c. cond c (s ∷ filter (λ x. x.quantum == q) rest) (filter (λ x. x.quantum == q) rest)) e.0
          ∙ none_of q n rest h (All-tail (λ (x : Saving). x.quantum ≤ n) s rest a)
    ]

-- a quantum that saves nothing adds no group
quiet-next : (setup : SetupFields) (n : ℕ) → IsSetup setup → suc n ≤ MOST_QUANTA → length (serial setup (suc n)).saved ≤ length (serial setup n).saved
    → run_bank setup (suc n) ≡ run_bank setup n
unfolding bank
quiet-next setup n is few h =
    let w : World = serial setup n in
    let v : World = serial setup (suc n) in
    let more = serial-more setup n in
    let none : more.0 ≡ [] = empty_if more.0 (omega (arith, h, ap length more.1, length-append w.saved more.0)) in
    let same : v.saved ≡ w.saved = more.1 ∙ ap (λ (xs : List Saving). w.saved ++ xs) none ∙ append-nil w.saved in
    let r = serial_is_sound setup n is (omega (arith, few)) in
    let past : All (λ s. s.quantum ≤ n) w.saved = subst (λ (k : ℕ). All (λ s. s.quantum ≤ k) w.saved) r.quanta r.sound.past in
    let nothing : saved_in (suc n) v ≡ [] =
    ap (λ (xs : List Saving). map (saved_of v.genotypes) (filter (λ s. s.quantum == suc n) xs)) same
    ∙ ap (map (saved_of v.genotypes)) (none_of (suc n) n w.saved (omega arith) past) in
    let next : suc n + 1 ≡ suc (suc n) = omega arith in
    let here : suc n ≡ n + 1 = omega arith in
    ap (bank setup) next
    ∙ ap (λ xs. bank setup (suc n) ++ group_if_any (suc n) xs) nothing
    ∙ append-nil (bank setup (suc n))
    ∙ ap (bank setup) here

-- nor do several
pub quiet : (setup : SetupFields) (n k : ℕ) → IsSetup setup → n + k ≤ MOST_QUANTA → length (serial setup (n + k)).saved ≤ length (serial setup n).saved
    → run_bank setup (n + k) ≡ run_bank setup n
quiet setup n zero is few h = let e : n + 0 ≡ n = omega arith in ap (run_bank setup) e
quiet setup n (suc k) is few h =
    let e : n + suc k ≡ suc (n + k) = omega arith in
    let all = saved-grows setup n k in
    let last : length (serial setup (suc (n + k))).saved ≤ length (serial setup n).saved
    = subst (λ (m : ℕ). length (serial setup m).saved ≤ length (serial setup n).saved) e h in
    let more = serial-more setup (n + k) in
    ap (run_bank setup) e
    ∙ quiet-next setup (n + k) is (omega (arith, few)) (omega (arith, last, all))
    ∙ quiet setup n k is (omega (arith, few)) (omega (arith, last, ap length more.1, length-append (serial setup (n + k)).saved more.0))

-- where nothing is saved, there is no group
bank-none : (setup : SetupFields) (m q : ℕ) → length (serial setup m).saved ≤ 0 → q ≤ m + 1 → bank setup q ≡ []
unfolding bank
bank-none setup m zero none h = refl
bank-none setup m (suc q) none h =
    let e : q + (m - q) ≡ m = omega (arith, h) in
    let still : length (serial setup q).saved ≤ 0 = omega (arith, saved-grows setup q (m - q), ap (λ (k : ℕ). length (serial setup k).saved) e, none) in
    let nothing : saved_in q (serial setup q) ≡ [] =
    ap (λ (xs : List Saving). map (saved_of (serial setup q).genotypes) (filter (λ s. s.quantum == q) xs))
    (empty_if (serial setup q).saved (omega (arith, still))) in
    ap (λ xs. bank setup q ++ group_if_any q xs) nothing ∙ append-nil (bank setup q) ∙ bank-none setup m q none (omega (arith, h))

pub none_saved : (setup : SetupFields) (m : ℕ) → length (serial setup m).saved ≤ 0 → run_bank setup m ≡ []
none_saved setup m none = bank-none setup m (m + 1) none (omega arith)
