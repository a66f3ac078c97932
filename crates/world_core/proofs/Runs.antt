-- The savings of one quantum, from a place of the list on, are the first group of those from there on.
use Rattle.std.proofs.Common.{◌≡◌, ◌≢◌, ◌∙◌, ℕ, ◌+◌, ◌-◌, ◌<◌, ◌≤◌, List, [], ◌∷◌, ◌++◌, sym, ap, arith, drop, get_or, length, subst, take}
use Rattle.std.proofs.lemmas.List.{drop-map, get_or-drop, get_or-take, length-drop, length-map, length-take, map-append, take-map}
use Rattle.std.proofs.lemmas.List.Elements.{All-drop, All-from_get_or, All-map, All-take}
use Rattle.std.proofs.lemmas.List.Folds.{drop_split}
use Rattle.std.specs.Prelude.{All, slice_range}
use Rattle.tierra_model.specs.World.{Genotype, Saving as ModelSaving}
use Rattle.world_state.specs.declared.saving.Saving.{Saving}
use Rattle.world_core.specs.Groups.{group_of, grouped}
use Rattle.world_core.specs.Savings.{AreOf, BeginsAnew, no_saving, quantum_of}
use Rattle.world_state.specs.Savings.{saving_of, savings_of}
use Rattle.world_core.proofs.Grouped.{BeginsOther, IsOf, run-grouped}

begins : (q : ℕ) (ys : List Saving) → (0 < length ys → (get_or ys 0 no_saving).quantum ≢ q) → BeginsOther q (savings_of ys)
begins q [] h = tt
begins q (y ∷ ys) h = h (omega arith)

some-run : (gs : List Genotype) (q : ℕ) (run rest : List ModelSaving) → 0 < length run → All (IsOf q) run → BeginsOther q rest
    → grouped gs (run ++ rest) ≡ group_of gs q run ∷ grouped gs rest
some-run gs q [] rest h one other = absurd (omega arith)
some-run gs q (s ∷ run) rest h one other = run-grouped gs q s run rest one other

pub first-run : (gs : List Genotype) (xs : List Saving) (at end : ℕ) → at < end → end ≤ length xs → AreOf xs at end → BeginsAnew xs at end
    → grouped gs (savings_of (drop at xs)) ≡ group_of gs (quantum_of (slice_range xs at end))
    (savings_of (slice_range xs at end)) ∷ grouped gs (savings_of (drop end xs))
first-run gs xs at end l h same anew =
    let n : ℕ = end - at in
    let run : List Saving = slice_range xs at end in
    let q : ℕ = (get_or xs at no_saving).quantum in
    let long : length run ≡ n = omega (arith, length-take n (drop at xs), length-drop at xs) in
    let here : (k : ℕ) → k < n → get_or run k no_saving ≡ get_or xs (at + k) no_saving
    = λ k m. get_or-take n (drop at xs) k no_saving m ∙ get_or-drop at xs k no_saving in
    let of : All (IsOf q) (savings_of run)
    = All-map (IsOf q) saving_of run (All-from_get_or (λ (s : Saving). s.quantum ≡ q) run no_saving (λ k m.
    (let below : k < n = omega arith in ap (λ (s : Saving). s.quantum) (here k below) ∙ same (at + k) no_saving (omega arith) (omega arith)))) in
    let zero_is : at + 0 ≡ at = omega arith in
    let first : quantum_of run ≡ q = ap (λ (s : Saving). s.quantum) (here 0 (omega arith) ∙ ap (λ (k : ℕ). get_or xs k no_saving) zero_is) in
    let other : BeginsOther q (savings_of (drop end xs))
    = begins q (drop end xs) (λ some.
    let end_is : end + 0 ≡ end = omega arith in
    let next : get_or (drop end xs) 0 no_saving ≡ get_or xs end no_saving = get_or-drop end xs 0 no_saving ∙ ap (λ (k : ℕ). get_or xs k no_saving) end_is in
    let within : end < length xs = omega (arith, length-drop end xs) in
    λ e. anew within (ap (λ (s : Saving). s.quantum) (sym next) ∙ e)) in
    ap (λ (ys : List Saving). grouped gs (savings_of ys)) (drop_split xs at end (omega arith))
    ∙ ap (grouped gs) (map-append saving_of run (drop end xs))
    ∙ some-run gs q (savings_of run) (savings_of (drop end xs)) (omega (arith, length-map run saving_of)) of other
    ∙ ap (λ (k : ℕ). group_of gs k (savings_of run) ∷ grouped gs (savings_of (drop end xs))) (sym first)

-- what holds of all holds of a part
pub part-known : (P : ModelSaving → Type 0) (xs : List Saving) (at end : ℕ) → All P (savings_of xs) → All P (savings_of (slice_range xs at end))
part-known P xs at end a =
    subst (All P) (ap (take (end - at)) (drop-map saving_of at xs) ∙ take-map saving_of (end - at) (drop at xs))
    (All-take P (end - at) (drop at (savings_of xs)) (All-drop P at (savings_of xs) a))
