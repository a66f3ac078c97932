-- The disturbance of a sound world counts the living, since its reaper queue is as long.
use Rattle.std.proofs.Common.{◌≡◌, ℕ, ◌+◌, ◌*◌, ◌/◌, ◌≤◌, List, [], ◌∷◌, refl, sym, ◌∙◌, ap, arith, inl, inr, length}
use Rattle.std.specs.Prelude.{Some, None, Option, not, filter, ◌==◌}
use Rattle.std.proofs.lemmas.List.{length-map}
use Rattle.std.proofs.lemmas.Bool.Decides.{nat_tests, eqb_tells}
use Rattle.tierra_model.specs.declared.creatures.Creature.{Creature}
use Rattle.tierra_model.specs.Counting.{times_in}
use Rattle.tierra_model.specs.Quantum.{flip, reap_times, world_machine}
use Rattle.tierra_model.specs.Living.{ids_of}
use Rattle.tierra_model.specs.World.{World}
use Rattle.tierra_model.specs.Sound.{IsSound}
use Rattle.tierra_model.specs.Events.{apply_event}
use Rattle.tierra_model.specs.Laws.{DisturbanceCountsLiving}
use Rattle.tierra_model.proofs.Owners.{times_in-filter_same, times_in-filter_other}

length-filter : (id : ℕ) (ids : List ℕ) → length (filter (λ x. not (x == id)) ids) + times_in ids id ≡ length ids
length-filter id [] = refl
length-filter id (x ∷ xs) = grind (arith, nat_tests, length-filter id xs)

-- two lists that have the same numbers, each once
same_numbers-length : (xs ys : List ℕ) → ((id : ℕ) → times_in xs id ≡ times_in ys id) → ((id : ℕ) → times_in xs id ≤ 1) → length xs ≡ length ys
same_numbers-length [] [] same once = refl
same_numbers-length [] (y ∷ ys) same once = (let e = same y in grind (arith, nat_tests))
same_numbers-length (x ∷ xs) ys same once =
    let rest : List ℕ = filter (λ y. not (y == x)) ys in
    let one : times_in xs x ≡ 0 = (let o = once x in grind (arith, nat_tests)) in
    let here : times_in ys x ≡ 1 = (let s = same x in grind (arith, nat_tests)) in
    let fewer : (id : ℕ) → times_in xs id ≡ times_in rest id = λ id. elim (eqb_tells id x) [
      | inl e ↦ rw (e.1) (one ∙ sym (times_in-filter_same ys x))
      | inr e ↦ (let s = same id in let o = times_in-filter_other ys x id e.1 in grind (arith, nat_tests))
    ] in
    omega (arith, same_numbers-length xs rest fewer (λ id. (let o = once id in omega arith)), length-filter x ys, here)

pub length-reaper : (w : World) → IsSound w → length w.reaper ≡ length w.living
length-reaper w s =
    same_numbers-length w.reaper (ids_of w.living) s.reaper (λ id. (let o = s.once id in let r = s.reaper id in omega arith))
    ∙ length-map w.living (λ (c : Creature). c.id)

flip-reaper : (w : World) (bit : Option (ℕ × ℕ)) → (flip world_machine w.settings bit w).reaper ≡ w.reaper
unfolding apply_event
flip-reaper w None = refl
flip-reaper w (Some c) = refl

pub disturbance_counts_living : DisturbanceCountsLiving
disturbance_counts_living w bit s =
    ap (λ (n : ℕ). reap_times world_machine w.settings (n * w.settings.dist_percent / 100) (flip world_machine w.settings bit w))
    (ap length (flip-reaper w bit) ∙ length-reaper w s)
