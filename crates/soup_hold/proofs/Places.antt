-- Where a run stands between its checkpoints.
use Rattle.std.proofs.Common.{◌≡◌, ◌∙◌, refl, sym, ap, subst, arith, ℕ, zero, suc, add-one, ◌+◌, ◌-◌, ◌*◌, ◌/◌, ◌<◌, ◌≤◌, List, Some}
use Rattle.std.proofs.Math.Nat.{le-div_iff_mul-le, lt-mul-div-succ, mul-le-mul_right}
use Rattle.std.proofs.lemmas.Option.{same_Some}
use Rattle.std.specs.Prelude.{length, slice_get}
use Rattle.serial_slicer.specs.Onward.{after}
use Rattle.serial_slicer.proofs.Serials.{sound_after}
use Rattle.soup_hold.specs.Steps.{IsWorldAfter}
use Rattle.soup_hold.specs.Text.{held_quanta, world_at}
use Rattle.soup_hold.proofs.Quanta.{count_of, first_number, held-at, length-held}
use Rattle.tierra_model.specs.declared.limits.TheConstants.{MOST_QUANTA}
use Rattle.tierra_model.specs.Quantum.{quantum}
use Rattle.tierra_model.specs.Sound.{IsSound}
use Rattle.tierra_model.specs.World.{World}

-- one run after another
after-after : (a b : ℕ) (w : World) → after a (after b w) ≡ after (a + b) w
unfolding after
after-after zero b w = ap (λ (k : ℕ). after k w) (omega arith)
after-after (suc a) b w =
    let next : suc (a + b) ≡ suc a + b = omega arith in
    ap quantum (after-after a b w) ∙ ap (λ (k : ℕ). after k w) next

-- the world of a run that goes on from the first, and may run on to the quantum
pub record IsOnTheWay (first w : World) (q : ℕ) : Type 0 where
  pub settings : w.settings ≡ first.settings
  pub sound : IsSound w
  pub later : w.quanta ≤ q
  pub on : after (q - w.quanta) w ≡ world_at first q

-- ---- from a world after some quanta

pub at_first : (first w : World) (q : ℕ) → IsSound first → w ≡ first → first.quanta ≤ q → IsOnTheWay first w q
at_first first w q sound is later = rw is (record { settings = refl; sound = sound; later = later; on = refl })

at_later : (first w : World) (p q : ℕ) → IsSound first → w ≡ world_at first p → first.quanta ≤ p → p ≤ q → q ≤ MOST_QUANTA
    → IsOnTheWay first w q
at_later first w p q sound is from to few =
    let r = sound_after (p - first.quanta) first sound (omega (arith, from, to, few)) in
    let here : (world_at first p).quanta ≡ p = omega (arith, r.quanta, from) in
    let steps : (q - (world_at first p).quanta) + (p - first.quanta) ≡ q - first.quanta = omega (arith, here, from, to) in
    rw is (record {
      settings = r.settings;
      sound = r.sound;
      later = omega (arith, here, to);
      on = after-after (q - (world_at first p).quanta) (p - first.quanta) first ∙ ap (λ (k : ℕ). after k first) steps;
    })

module _ (first : World) (sound : IsSound first) (every n : ℕ) (some : 0 < every) (within : first.quanta ≤ n) (few : n ≤ MOST_QUANTA) where
  abbrev quanta : List ℕ
  quanta = held_quanta every first.quanta n

  abbrev number : ℕ → ℕ
  number j = first_number every first.quanta + j

  behind_first : (j : ℕ) → first.quanta ≤ number j * every
  behind_first j =
      let least = lt-mul-div-succ first.quanta some in
      let more : (first.quanta / every + 1) * every ≤ number j * every = mul-le-mul_right every (omega arith) in
      omega (arith, least, more)

  not_beyond : (j : ℕ) → j < count_of every first.quanta n → number j * every ≤ n
  not_beyond j inside = (le-div_iff_mul-le some).0 (omega (arith, inside))

  held_there : (j q : ℕ) → j < count_of every first.quanta n → slice_get quanta j ≡ Some q → q ≡ number j * every
  held_there j q inside is = same_Some q (number j * every) (sym is ∙ held-at every first.quanta some n j (number j) inside refl)

  from_last : (j : ℕ) (w : World) (q : ℕ) → j ≤ count_of every first.quanta n → IsWorldAfter first quanta j w → first.quanta ≤ q
      → q ≤ MOST_QUANTA → ((i : ℕ) → i + 1 ≡ j → number i * every ≤ q) → IsOnTheWay first w q
  from_last zero w q inside is from to past = at_first first w q sound is from
  from_last (suc i) w q inside is from to past =
      let there = held_there i is.0 (omega (arith, inside)) is.1 in
      let last = past i (add-one i) in
      at_later first w is.0 q sound is.2 (omega (arith, there, behind_first i)) (omega (arith, there, last)) to

  -- on the way to the next checkpoint
  pub to_next : (j : ℕ) (w : World) (k : ℕ) → IsWorldAfter first quanta j w → j < length quanta → number j ≡ k
      → (slice_get quanta j ≡ Some (k * every)) × (k * every ≤ n) × IsOnTheWay first w (k * every)
  to_next j w k is inside place =
      let count = length-held every first.quanta some n in
      let few_held : j < count_of every first.quanta n = omega (arith, inside, count) in
      let low : number j * every ≤ n = not_beyond j few_held in
      let way = from_last j w (number j * every) (omega (arith, few_held)) is (behind_first j) (omega (arith, low, few))
      (λ i one. mul-le-mul_right every (omega (arith, one))) in (
        held-at every first.quanta some n j k few_held place,
        subst (λ (m : ℕ). m * every ≤ n) place low,
        subst (λ (m : ℕ). IsOnTheWay first w (m * every)) place way,
      )

  -- and to the last quantum
  pub to_the_end : (j : ℕ) (w : World) → IsWorldAfter first quanta j w → j ≤ length quanta → IsOnTheWay first w n
  to_the_end j w is inside =
      let count = length-held every first.quanta some n in
      from_last j w n (omega (arith, inside, count)) is within few
      (λ i one. not_beyond i (omega (arith, one, inside, count)))

-- ---- by the numbers of the multiples

-- the quantum with this number is the next one
pub record IsNext (first w : World) (every n number place : ℕ) : Type 0 where
  pub there : slice_get (held_quanta every first.quanta n) place ≡ Some (number * every)
  pub within : number * every ≤ n
  pub way : IsOnTheWay first w (number * every)

module _ (first : World) (sound : IsSound first) (every n m number : ℕ) (is : m ≡ first.quanta) (some : 0 < every)
    (within : first.quanta ≤ n) (few : n ≤ MOST_QUANTA) (begun : m / every + 1 ≤ number) where
  pub is_next : number < n / every + 1 → (w : World)
      → IsWorldAfter first (held_quanta every first.quanta n) (number - (m / every + 1)) w
      → IsNext first w every n number (number - (m / every + 1))
  is_next more w after_is =
      let same : m / every ≡ first.quanta / every = ap (λ (k : ℕ). k / every) is in
      let count = length-held every first.quanta some n in
      let inside : number - (m / every + 1) < length (held_quanta every first.quanta n) = omega (arith, more, begun, same, count) in
      let place : first.quanta / every + 1 + (number - (m / every + 1)) ≡ number = omega (arith, begun, same) in
      let next = to_next first sound every n some within few (number - (m / every + 1)) w number after_is inside place in
      record { there = next.0; within = next.1; way = next.2 }

  -- and after the last one there is none
  pub is_last : number ≤ n / every + 1 → n / every + 1 ≤ number → number - (m / every + 1) ≡ length (held_quanta every first.quanta n)
  is_last most least =
      let same : m / every ≡ first.quanta / every = ap (λ (k : ℕ). k / every) is in
      let count = length-held every first.quanta some n in
      omega (arith, most, least, begun, same, count)
