-- Those who live in a sound world can begin another.
use Rattle.std.proofs.Common.{◌≡◌, ℕ, ◌+◌, ◌<◌, ◌≤◌, List, [], ◌∷◌, sym, ap, arith, inl, inr, length, map, subst}
use Rattle.std.specs.Prelude.{unwrap_or}
use Rattle.std.proofs.lemmas.Bool.Decides.{nat_tests, eqb_tells}
use Rattle.std.proofs.lemmas.List.{length-map}
use Rattle.tierra_model.specs.declared.creatures.Block.{Block}
use Rattle.tierra_model.specs.declared.creatures.Creature.{Creature}
use Rattle.tierra_model.specs.declared.setups.Inoculum.{Inoculum}
use Rattle.tierra_model.specs.Blocks.{is_in}
use Rattle.tierra_model.specs.Counting.{one_if, sum_of, times_in}
use Rattle.tierra_model.specs.Living.{ids_of, nobody, one_of, without}
use Rattle.tierra_model.specs.Ranges.{IsCode}
use Rattle.tierra_model.specs.Setups.{IsSetup, block_of}
use Rattle.tierra_model.specs.Sound.{IsPlaced, IsSound, owners_of}
use Rattle.tierra_model.specs.World.{World}
use Rattle.tierra_model.proofs.Each.{Each, all_from_each}
use Rattle.tierra_model.proofs.Living.{find-without}
use Rattle.tierra_model.proofs.Owners.{ids_of-without, is_here-times, sum_of-without, times_in-filter_other, times_in-filter_same}
use Rattle.tierra_model.proofs.WithinQuantum.{code_of_block}
use Rattle.world_state.proofs.SlicerLength.{length-slicer}
use Rattle.world_core.proofs.Within.{of_one}
use Rattle.soup_isles.specs.Isles.{settler, settlers}

-- what holds of each one whose number stands in the list
each-of : (P : Inoculum → Type 0) (f : ℕ → Inoculum) (ids : List ℕ) → ((id : ℕ) → 0 < times_in ids id → P (f id)) → Each P (map f ids)
each-of P f [] h = tt
each-of P f (x ∷ xs) h = (
  h x (grind (arith, nat_tests)),
  each-of P f xs (λ id here. h id (grind (arith, nat_tests))),
)

-- without one, each has its number at most once
fewer : (living : List Creature) (x : ℕ) → ((id : ℕ) → times_in (ids_of living) id ≤ 1) → (id : ℕ) → times_in (ids_of (without x living)) id ≤ 1
fewer living x once id =
    let one = once id in
    elim (eqb_tells id x) [
      | inl e ↦ rw (ids_of-without x living, e.1, times_in-filter_same (ids_of living) x) (omega arith)
      | inr e ↦ rw (ids_of-without x living, times_in-filter_other (ids_of living) x id e.1) one
    ]

-- without one, another is as before
other : (g : Inoculum → ℕ) (h : ℕ → Inoculum) (f : Creature → ℕ) (living : List Creature) (x id : ℕ) → (id ≡ x → ⊥)
    → (0 < times_in (ids_of living) id) × (g (h id) ≤ f (one_of living id))
    → (0 < times_in (ids_of (without x living)) id) × (g (h id) ≤ f (one_of (without x living) id))
other g h f living x id differs a = (
  rw (ids_of-without x living, times_in-filter_other (ids_of living) x id differs) (a.0),
  subst (λ (c : Creature). g (h id) ≤ f c) (sym (ap (λ o. unwrap_or o nobody) (find-without living id x differs))) a.1,
)

-- a sum over some of the living, each once, is not above the sum over all
sum-some : (f : Creature → ℕ) (g : Inoculum → ℕ) (h : ℕ → Inoculum) (ids : List ℕ) (living : List Creature)
    → ((id : ℕ) → times_in ids id ≤ 1) → ((id : ℕ) → times_in (ids_of living) id ≤ 1)
    → ((id : ℕ) → 0 < times_in ids id → (0 < times_in (ids_of living) id) × (g (h id) ≤ f (one_of living id)))
    → sum_of g (map h ids) ≤ sum_of f living
sum-some f g h [] living once all each = omega arith
sum-some f g h (x ∷ xs) living once all each =
    let here = each x (grind (arith, nat_tests)) in
    let left : List Creature = without x living in
    let none : times_in xs x ≡ 0 = (let o = once x in grind (arith, nat_tests)) in
    let rest = sum-some f g h xs left (λ id. (let o = once id in grind (arith, nat_tests))) (fewer living x all)
    (λ id there. other g h f living x id (λ e. absurd (omega (arith, none, subst (λ (k : ℕ). 0 < times_in xs k) e there)))
    (each id (grind (arith, nat_tests)))) in
    omega (arith, rest, here.1, sum_of-without f living x (is_here-times living x here.0) (all x))

-- ---- those who live

-- a living creature's own block
own-placed : (w : World) (id : ℕ) → IsSound w → 0 < times_in w.slicer id → IsPlaced w.settings.soup_size (one_of w.living id)
own-placed w id s here =
    of_one (IsPlaced w.settings.soup_size) w.living id s.placed (let same = s.slicer id in omega arith)

abbrev Stays : World → ℕ → Inoculum
Stays w id = settler w (one_of w.living id)

stays-code : (w : World) (id : ℕ) → IsSound w → 0 < times_in w.slicer id → IsCode (Stays w id).code × (length (Stays w id).code ≡ (one_of w.living id).own.size)
stays-code w id s here =
    code_of_block w.settings.soup_size w.soup (one_of w.living id).own (own-placed w id s here).own s.cells s.codes

stays-placed : (w : World) (id : ℕ) → IsSound w → 0 < times_in w.slicer id → (Stays w id).at + length (Stays w id).code ≤ w.settings.soup_size
stays-placed w id s here =
    let code = stays-code w id s here in
    let own = (own-placed w id s here).own in
    omega (arith, code.1, own.2)

stays-cell : (w : World) (id p : ℕ) → IsSound w → 0 < times_in w.slicer id
    → (0 < times_in (ids_of w.living) id) × (one_if (is_in (block_of (Stays w id)) p) ≤ owners_of (one_of w.living id) p)
stays-cell w id p s here =
    let own : Block = (one_of w.living id).own in
    let code = stays-code w id s here in
    let same : one_if (is_in (block_of (Stays w id)) p) ≡ one_if (is_in own p)
    = ap (λ (k : ℕ). one_if (is_in (record { at = own.at; size = k }) p)) code.1 in
    (let there = s.slicer id in omega arith, omega arith)

pub settlers-setup : (w : World) → IsSound w → IsSetup (record { settings = w.settings; creatures = settlers w })
unfolding settlers
settlers-setup w s =
    let f : ℕ → Inoculum = Stays w in
    record {
      some = omega (arith, length-map w.slicer f, length-slicer w s, s.some);
      written = all_from_each (λ c. IsCode c.code) (map f w.slicer) (each-of (λ c. IsCode c.code) f w.slicer (λ id here. (stays-code w id s here).0));
      placed = all_from_each (λ c. c.at + length c.code ≤ w.settings.soup_size) (map f w.slicer)
          (each-of (λ c. c.at + length c.code ≤ w.settings.soup_size) f w.slicer (λ id here. stays-placed w id s here));
      apart = λ p. (let few = s.apart p in
          let all = sum-some (λ c. owners_of c p) (λ c. one_if (is_in (block_of c) p)) f w.slicer w.living
          (λ id. (let o = s.once id in let e = s.slicer id in omega arith)) s.once (λ id here. stays-cell w id p s here) in
          omega arith);
    }
