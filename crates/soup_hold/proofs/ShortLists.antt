-- How many creatures live in a sound world, and how many genotypes it has saved, are in the ranges of their fields.
use Rattle.std.proofs.Common.{◌≡◌, ℕ, zero, suc, ◌+◌, ◌^◌, ◌<◌, ◌≤◌, Bool, true, false, List, [], ◌∷◌, refl, sym, ap, subst, arith, inl, inr, length}
use Rattle.std.specs.Prelude.{All, filter, map, nat_lt, nat_le, not, ◌==◌}
use Rattle.std.proofs.lemmas.Bool.Decides.{eqb_tells, nat_tests}
use Rattle.std.proofs.lemmas.List.{length-map}
use Rattle.std.proofs.lemmas.List.Elements.{All-head, All-tail}
use Rattle.tierra_model.specs.declared.creatures.Creature.{Creature}
use Rattle.tierra_model.specs.Blocks.{is_in}
use Rattle.tierra_model.specs.Counting.{one_if, times_in}
use Rattle.tierra_model.specs.Sound.{IsPlaced, IsSound, numbers_of, owners}
use Rattle.tierra_model.specs.World.{Genotype, Saving, World, genotype_at}
use Rattle.tierra_model.proofs.Genotypes.{genotype_at-past}
use Rattle.tierra_model.proofs.Owners.{times_in-filter_other, times_in-filter_same}

-- ---- numbers that are listed once

length-filter : (id : ℕ) (ids : List ℕ) → length (filter (λ x. not (x == id)) ids) + times_in ids id ≡ length ids
length-filter id [] = refl
length-filter id (x ∷ xs) = grind (arith, nat_tests, length-filter id xs)

-- numbers below n, each once, are at most n
few_below : (n : ℕ) (ids : List ℕ) → ((id : ℕ) → times_in ids id ≤ one_if (nat_lt id n)) → length ids ≤ n
few_below zero [] h = omega arith
few_below zero (x ∷ xs) h =
    let past : nat_lt x 0 ≡ false = grind (arith, nat_tests) in
    let none : times_in (x ∷ xs) x ≤ 0 = subst (λ (b : Bool). times_in (x ∷ xs) x ≤ one_if b) past (h x) in
    let here : 0 < times_in (x ∷ xs) x = grind (arith, nat_tests) in
    absurd (omega arith)
few_below (suc n) ids h =
    let rest : List ℕ = filter (λ x. not (x == n)) ids in
    let fewer : (id : ℕ) → times_in rest id ≤ one_if (nat_lt id n) = λ id. elim (eqb_tells id n) [
      | inl e ↦ subst (λ (k : ℕ). times_in rest k ≤ one_if (nat_lt k n)) (sym e.1) (omega (arith, times_in-filter_same ids n))
      | inr e ↦ (let o = times_in-filter_other ids n id e.1 in let k = h id in grind (arith, nat_tests))
    ] in
    let one : times_in ids n ≤ 1 = (let k = h n in grind (arith, nat_tests)) in
    omega (arith, few_below n rest fewer, length-filter n ids, one)

-- ---- the living

abbrev starts_of : List Creature → List ℕ
starts_of living = map (λ c. c.own.at) living

starts_owned : (n : ℕ) (living : List Creature) (p : ℕ) → All (IsPlaced n) living → times_in (starts_of living) p ≤ owners living p
starts_owned n [] p h = omega arith
starts_owned n (c ∷ cs) p h =
    let own = (All-head (IsPlaced n) c cs h).own in
    let here : one_if (c.own.at == p) ≤ one_if (is_in c.own p) = grind (arith, nat_tests) in
    omega (arith, here, starts_owned n cs p (All-tail (IsPlaced n) c cs h))

starts_inside : (n : ℕ) (living : List Creature) (p : ℕ) → All (IsPlaced n) living → n ≤ p → times_in (starts_of living) p ≡ 0
starts_inside n [] p h k = refl
starts_inside n (c ∷ cs) p h k =
    let own = (All-head (IsPlaced n) c cs h).own in
    let here : one_if (c.own.at == p) ≡ 0 = grind (arith, nat_tests) in
    omega (arith, here, starts_inside n cs p (All-tail (IsPlaced n) c cs h) k)

pub few_living : (w : World) → IsSound w → length w.living < 2 ^ 32
few_living w s =
    let n : ℕ = w.settings.soup_size in
    let each : (p : ℕ) → times_in (starts_of w.living) p ≤ one_if (nat_lt p n) = λ p. go p (nat_lt p n) refl in
    omega (arith, few_below n (starts_of w.living) each, length-map w.living (λ (c : Creature). c.own.at), w.settings.soup)
  where
    go : (p : ℕ) (b : Bool) → nat_lt p w.settings.soup_size ≡ b → times_in (starts_of w.living) p ≤ one_if b
    go p true e = omega (arith, starts_owned w.settings.soup_size w.living p s.placed, s.apart p)
    go p false e =
        let past : w.settings.soup_size ≤ p = grind (arith, nat_tests) in
        omega (arith, starts_inside w.settings.soup_size w.living p s.placed past)

-- ---- the saved genotypes

pub few_saved : (w : World) → IsSound w → length w.saved < 2 ^ 64
few_saved w s =
    omega (
      arith,
      few_below (length w.genotypes) (numbers_of w.saved) (λ k. go k (nat_lt k (length w.genotypes)) refl),
      length-map w.saved (λ (x : Saving). x.genotype),
      s.genotype_count,
      s.next_birth,
      s.quanta,
    )
  where
    go : (k : ℕ) (b : Bool) → nat_lt k (length w.genotypes) ≡ b → times_in (numbers_of w.saved) k ≤ one_if b
    go k true e = (let t = s.saved k in grind (arith, nat_tests))
    go k false e =
        let past : length w.genotypes ≤ k = grind (arith, nat_tests) in
        let none : (genotype_at w.genotypes k).total ≡ 0 = ap (λ (g : Genotype). g.total) (genotype_at-past w.genotypes k past) in
        let range : 1 ≤ w.settings.save_at = omega (arith, w.settings.saving) in
        let low : one_if (nat_le w.settings.save_at (genotype_at w.genotypes k).total) ≡ 0 = grind (arith, nat_tests) in
        omega (arith, s.saved k, low)
