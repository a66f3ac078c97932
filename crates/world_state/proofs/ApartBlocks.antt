-- Blocks in the order of their places share no cell exactly where each begins after those before it.
use Rattle.std.proofs.Common.{◌≡◌, ◌∙◌, ℕ, suc, ◌+◌, ◌<◌, ◌≤◌, Bool, List, [], ◌∷◌, None, Some, refl, sym, ap, ap₂, subst, arith, get_or, length, true, false}
use Rattle.std.proofs.Common.{inl, inr}
use Rattle.std.specs.Prelude.{◌↔◌, All, IfSome, Option, nat_le, option_to_list}
use Rattle.std.specs.List.Sorted.{IsNonDecreasingBy, IsPermutation}
use Rattle.std.proofs.lemmas.Bool.{cases_lt}
use Rattle.std.proofs.lemmas.Bool.Decides.{nat_tests}
use Rattle.std.proofs.lemmas.List.Concat.{flat_map-cons}
use Rattle.std.proofs.lemmas.List.Sorted.{All-permutation, sum_by-IsPermutation}
use Rattle.tierra_model.specs.declared.creatures.Block.{Block}
use Rattle.tierra_model.specs.declared.creatures.Creature.{Creature}
use Rattle.tierra_model.specs.Blocks.{is_in, is_in_daughter}
use Rattle.tierra_model.specs.Counting.{one_if}
use Rattle.tierra_model.specs.Ranges.{IsBlock}
use Rattle.tierra_model.specs.Sound.{IsPlaced, owners, owners_of}
use Rattle.tierra_model.proofs.Each.{Each, all_from_each, each-append, each_from_all}
use Rattle.tierra_model.proofs.Owners.{sum_of-append}
use Rattle.world_state.specs.Checks.{apart_step, blocks_in, blocks_of, covers, passes}
use Rattle.world_state.proofs.LineOrder.{same_sum}
use Rattle.world_state.proofs.Passing.{apart-on, if_some, passed-first, passes-first, passes-none}

of_daughter : (o : Option Block) (p : ℕ) → covers (option_to_list o) p ≡ one_if (is_in_daughter o p)
of_daughter None p = refl
of_daughter (Some b) p = omega arith

of_one : (c : Creature) (p : ℕ) → covers (blocks_of c) p ≡ owners_of c p
of_one c p = ap (λ (n : ℕ). one_if (is_in c.own p) + n) (of_daughter c.daughter p)

pub covers-living : (living : List Creature) (p : ℕ) → covers (blocks_in living) p ≡ owners living p
covers-living [] p = refl
covers-living (c ∷ cs) p =
    ap (λ (bs : List Block). covers bs p) (flat_map-cons blocks_of c cs)
    ∙ sum_of-append (λ b. one_if (is_in b p)) (blocks_of c) (blocks_in cs)
    ∙ ap₂ (λ (m n : ℕ). m + n) (of_one c p) (covers-living cs p)

covers-sorted : (bs sorted : List Block) → IsPermutation bs sorted → (p : ℕ) → covers sorted p ≡ covers bs p
covers-sorted bs sorted moved p =
    let f : Block → ℕ = λ b. one_if (is_in b p) in
    sym (same_sum f sorted) ∙ sum_by-IsPermutation f bs sorted moved ∙ same_sum f bs

-- ---- each block lies in the soup

blocks-lie : (n : ℕ) (c : Creature) → IsPlaced n c → Each (IsBlock n) (blocks_of c)
blocks-lie n c placed = (placed.own, go c.daughter placed.daughter)
  where
    go : (o : Option Block) → IfSome o (IsBlock n) → Each (IsBlock n) (option_to_list o)
    go None h = tt
    go (Some b) h = (h, tt)

pub all-lie : (n : ℕ) (living : List Creature) → Each (IsPlaced n) living → Each (IsBlock n) (blocks_in living)
all-lie n [] h = tt
all-lie n (c ∷ cs) h =
    subst (Each (IsBlock n)) (sym (flat_map-cons blocks_of c cs))
    (each-append (IsBlock n) (blocks_of c) (blocks_in cs) (blocks-lie n c h.0) (all-lie n cs h.1))

pub sorted-lie : (n : ℕ) (living : List Creature) (sorted : List Block) → All (IsPlaced n) living → IsPermutation (blocks_in living) sorted
    → All (IsBlock n) sorted
sorted-lie n living sorted placed moved =
    All-permutation (IsBlock n) (blocks_in living) sorted moved
    (all_from_each (IsBlock n) (blocks_in living) (all-lie n living (each_from_all (IsPlaced n) living placed)))

-- ---- those that follow each other share no cell

none-before : (end p : ℕ) (bs : List Block) → passes apart_step end bs ≡ true → p < end → covers bs p ≡ 0
none-before end p [] all lt = refl
none-before end p (b ∷ bs) all lt =
    let s = passed-first apart_step end b bs all in
    let t = if_some (nat_le end b.at) (b.at + b.size) s.next s.on in
    let after : end ≤ b.at = (let test : nat_le end b.at ≡ true = t.0 in grind (arith, nat_tests)) in
    let rest : covers bs p ≡ 0 = none-before s.next p bs s.rest (omega (arith, t.1, after)) in
    let out : is_in b p ≡ false = grind (arith, nat_tests) in
    rw out (omega (arith, rest))

once-covered : (end p : ℕ) (bs : List Block) → passes apart_step end bs ≡ true → covers bs p ≤ 1
once-covered end p [] all = omega arith
once-covered end p (b ∷ bs) all =
    let s = passed-first apart_step end b bs all in
    let t = if_some (nat_le end b.at) (b.at + b.size) s.next s.on in
    elim (cases_lt p (b.at + b.size)) [
      | inl lt ↦ (let rest : covers bs p ≡ 0 = none-before s.next p bs s.rest (omega (arith, t.1, lt)) in
          at_most (is_in b p) (covers bs p) (omega (arith, rest)))
      | inr le ↦ (let out : is_in b p ≡ false = grind (arith, nat_tests) in
          let rest : covers bs p ≤ 1 = once-covered s.next p bs s.rest in
          rw out (omega (arith, rest)))
    ]
  where
    at_most : (t : Bool) (n : ℕ) → n ≤ 0 → one_if t + n ≤ 1
    at_most true n h = omega (arith, h)
    at_most false n h = omega (arith, h)

-- ---- and the other way round

twice : (s t : Bool) (m : ℕ) → s ≡ true → t ≡ true → one_if s + (one_if t + m) ≤ 1 → ⊥
twice true true m a b h = omega (arith, h)
twice true false m a b h = absurd cc
twice false t m a b h = absurd cc

follows : (n end : ℕ) (bs : List Block) → IsNonDecreasingBy (λ (b : Block). b.at) bs → Each (IsBlock n) bs → ((p : ℕ) → covers bs p ≤ 1)
    → ((d : Block) → 0 < length bs → end ≤ (get_or bs 0 d).at) → passes apart_step end bs ≡ true
follows n end [] up lie once first = passes-none apart_step end
follows n end (b ∷ bs) up lie once first =
    passes-first apart_step end (b.at + b.size) b bs (apart-on end b (first b (omega arith)))
    (follows n (b.at + b.size) bs (λ i j d l m. up (suc i) (suc j) d (omega arith) (omega arith)) lie.1
    (λ p. (let o = once p in omega (arith, o))) (next bs up lie.1 once))
  where
    next : (rest : List Block) → IsNonDecreasingBy (λ (x : Block). x.at) (b ∷ rest) → Each (IsBlock n) rest → ((p : ℕ) → covers (b ∷ rest) p ≤ 1)
        → (d : Block) → 0 < length rest → b.at + b.size ≤ (get_or rest 0 d).at
    next [] up lie once d some = absurd (omega (arith, some))
    next (x ∷ rest) up lie once d some =
        elim (cases_lt x.at (b.at + b.size)) [
          | inl lt ↦ (let before : b.at ≤ x.at = up 0 1 b (omega arith) (omega arith) in
              let size = lie.0.0 in
              let one : is_in b x.at ≡ true = grind (arith, nat_tests) in
              let two : is_in x x.at ≡ true = grind (arith, nat_tests) in
              let both = once x.at in
              absurd (twice (is_in b x.at) (is_in x x.at) (covers rest x.at) one two both))
          | inr le ↦ le
        ]

pub apart-is : (n : ℕ) (living : List Creature) (sorted : List Block) → All (IsPlaced n) living → IsPermutation (blocks_in living) sorted
    → IsNonDecreasingBy (λ (b : Block). b.at) sorted → (passes apart_step 0 sorted ≡ true) ↔ ((p : ℕ) → owners living p ≤ 1)
apart-is n living sorted placed moved up =
    let same : (p : ℕ) → covers sorted p ≡ owners living p = λ p. covers-sorted (blocks_in living) sorted moved p ∙ covers-living living p in (
      λ all p. (let once = once-covered 0 p sorted all in let s = same p in omega (arith, once, s)),
      λ once. follows n 0 sorted up (each_from_all (IsBlock n) sorted (sorted-lie n living sorted placed moved))
          (λ p. (let o = once p in let s = same p in omega (arith, o, s))) (λ d some. omega arith),
    )
