-- Of all bytes it can be told whether they are the state of a sound world.
use Rattle.std.proofs.Common.{◌≡◌, ◌∙◌, ◌⊎◌, ℕ, zero, suc, ◌+◌, ◌<◌, ◌≤◌, Bool, List, [], ◌∷◌, None, Some, Option, refl, sym, subst, arith, get_or, length}
use Rattle.std.proofs.Common.{true, false, inl, inr}
use Rattle.std.specs.Prelude.{◌==◌, ◌↔◌, All, nat_le, nat_lt}
use Rattle.std.specs.Str.{bytes_eq}
use Rattle.std.specs.List.{insert, list_all}
use Rattle.std.specs.List.Sorted.{IsNonDecreasingBy, IsPermutation}
use Rattle.std.proofs.lemmas.Bool.{cases_eq, cases_lt}
use Rattle.std.proofs.lemmas.Bool.Decides.{nat_tests}
use Rattle.std.proofs.lemmas.List.Elements.{All-head, All-tail}
use Rattle.std.proofs.lemmas.List.Sorted.{IsNonDecreasingBy-drop, IsNonDecreasingBy-insert, IsNonDecreasingBy-short, IsPermutation-cons, IsPermutation-insert}
use Rattle.std.proofs.lemmas.List.Sorted.{IsPermutation-refl, IsPermutation-trans}
use Rattle.std.proofs.lemmas.Slice.Eq.{bytes_eq-Decides}
use Rattle.byte_fields.specs.Exact.{IsBytes}
use Rattle.tierra_model.specs.declared.limits.TheConstants.{MOST_QUANTA}
use Rattle.tierra_model.specs.declared.creatures.Block.{Block}
use Rattle.tierra_model.specs.declared.creatures.Creature.{Creature}
use Rattle.tierra_model.specs.declared.parameters.Settings.{Settings}
use Rattle.tierra_model.specs.Counting.{one_if, times_in}
use Rattle.tierra_model.specs.Living.{ids_of}
use Rattle.tierra_model.specs.Sound.{IsSound, Ordered, count_limit, numbers_of, times_coded}
use Rattle.tierra_model.specs.World.{Genotype, World, genotype_at}
use Rattle.world_state.specs.declared.fields.StoredGenotype.{StoredGenotype}
use Rattle.byte_fields.specs.declared.stop.Stop.TheVariants as stop
use Rattle.world_state.specs.declared.saving.Saving.{Saving}
use Rattle.world_state.specs.Checks.{apart_step, are_found, are_living, are_saved, blocks_in, is_code_number, passes, size_step}
use Rattle.world_state.specs.Reading.{StateParts, genotypes_of, state_at}
use Rattle.world_state.specs.Restoring.{AreBytesOf, IsStateOf}
use Rattle.world_state.specs.Savings.{savings_of}
use Rattle.world_state.specs.Soundness.{AreCodedOnce, AreDue, AreGenotypes, AreLiving, AreSame, AreSavings, HasCounts, HasParts, HasSizes, IsApart, IsMatched}
use Rattle.world_state.specs.StateBytes.{state_bytes}
use Rattle.world_state.proofs.ApartBlocks.{apart-is}
use Rattle.world_state.proofs.Deciding.{all-decides, cell-decides, lt-decides}
use Rattle.world_state.proofs.Joined.{found-decide, living-decide, ordered-lower, saved-decide, saved-known, sizes-are, sound-counts, sound-from, sound-matched}
use Rattle.world_state.proofs.Joined.{sound-parts}
use Rattle.world_state.proofs.LineOrder.{sorted-is, times-permuted}
use Rattle.world_state.proofs.Told.{draft_is, made_of, none_told}
use Rattle.world_state.proofs.TypesFit.{types-fit}

-- it holds, or it does not
abbrev pub OrNot : Type 0 → Type 0
OrNot P = P ⊎ (P → ⊥)

test-or-not : (b : Bool) (P : Type 0) → (b ≡ true) ↔ P → OrNot P
test-or-not true P is = inl (is.0 refl)
test-or-not false P is = inr (λ p. (let e = is.1 p in cc))

by-or-not : (P Q : Type 0) → (P → Q) → (Q → P) → OrNot P → OrNot Q
by-or-not P Q to from (inl p) = inl (to p)
by-or-not P Q to from (inr none) = inr (λ q. none (from q))

both-or-not : (P Q : Type 0) → OrNot P → OrNot Q → OrNot (P × Q)
both-or-not P Q (inl p) (inl q) = inl (p, q)
both-or-not P Q (inl p) (inr none) = inr (λ h. none h.1)
both-or-not P Q (inr none) q = inr (λ h. none h.0)

lt-or-not : (m n : ℕ) → OrNot (m < n)
lt-or-not m n = test-or-not (nat_lt m n) (m < n) (lt-decides m n)

le-or-not : (m n : ℕ) → OrNot (m ≤ n)
le-or-not m n = by-or-not (m < n + 1) (m ≤ n) (λ h. omega (arith, h)) (λ h. omega (arith, h)) (lt-or-not m (n + 1))

pub list-or-not : (xs ys : List ℕ) → OrNot (xs ≡ ys)
list-or-not xs ys = test-or-not (bytes_eq xs ys) (xs ≡ ys) (bytes_eq-Decides xs ys)

below-or-not : (P : ℕ → Type 0) → ((k : ℕ) → OrNot (P k)) → (n : ℕ) → OrNot ((k : ℕ) → k < n → P k)
below-or-not P one zero = inl (λ k lt. absurd (omega (arith, lt)))
below-or-not P one (suc n) =
    by-or-not (((k : ℕ) → k < n → P k) × P n) ((k : ℕ) → k < suc n → P k) (λ h. more h.0 h.1)
    (λ h. (λ k lt. h k (omega (arith, lt)), h n (omega arith)))
    (both-or-not ((k : ℕ) → k < n → P k) (P n) (below-or-not P one n) (one n))
  where
    more : ((k : ℕ) → k < n → P k) → P n → (k : ℕ) → k < suc n → P k
    more all last k lt =
        elim (cases_eq k n) [
          | inl same ↦ subst P (sym same) last
          | inr other ↦ all k (omega (arith, lt, other))
        ]

-- ---- sorting

-- where an element has its place in a sorted list
record Place {X : Type 0} (n : X → ℕ) (y : X) (xs : List X) : Type 0 where
  at : ℕ
  inside : at ≤ length xs
  before : (k : ℕ) (d : X) → k < at → n (get_or xs k d) ≤ n y
  after : (k : ℕ) (d : X) → at ≤ k → k < length xs → n y ≤ n (get_or xs k d)

place : {X : Type 0} (n : X → ℕ) (y : X) (xs : List X) → IsNonDecreasingBy n xs → Place n y xs
place n y [] up = record {
  at = 0;
  inside = omega arith;
  before = λ k d lt. absurd (omega (arith, lt));
  after = λ k d le lt. absurd (omega (arith, lt));
}
place {X = X} n y (x ∷ xs) up =
    elim (cases_lt (n x) (n y)) [
      | inl lower ↦ further lower (place n y xs (IsNonDecreasingBy-drop n 1 (x ∷ xs) up))
      | inr le ↦ record {
        at = 0;
        inside = omega arith;
        before = λ k d lt. absurd (omega (arith, lt));
        after = λ k d z lt. (let first = up 0 k d (omega arith) lt in omega (arith, le, first));
      }
    ]
  where
    further : n x < n y → Place n y xs → Place n y (x ∷ xs)
    further lower p = record {
      at = suc p.at;
      inside = (let i = p.inside in omega (arith, i));
      before = front;
      after = behind;
    }
      where
        front : (k : ℕ) (d : X) → k < suc p.at → n (get_or (x ∷ xs) k d) ≤ n y
        front zero d lt = omega (arith, lower)
        front (suc k) d lt = p.before k d (omega (arith, lt))

        behind : (k : ℕ) (d : X) → suc p.at ≤ k → k < length (x ∷ xs) → n y ≤ n (get_or (x ∷ xs) k d)
        behind zero d le lt = absurd (omega (arith, le))
        behind (suc k) d le lt = p.after k d (omega (arith, le)) (omega (arith, lt))

-- the same elements, the lowest first
record Sorted {X : Type 0} (n : X → ℕ) (xs : List X) : Type 0 where
  list : List X
  moved : IsPermutation xs list
  up : IsNonDecreasingBy n list

sorted : {X : Type 0} (n : X → ℕ) (xs : List X) → Sorted n xs
sorted n [] = record { list = []; moved = IsPermutation-refl []; up = IsNonDecreasingBy-short n [] (omega arith) }
sorted n (x ∷ xs) =
    let rest = sorted n xs in
    let p = place n x rest.list rest.up in
    let whole = insert rest.list p.at x in
    record {
      list = whole;
      moved = IsPermutation-trans (x ∷ xs) (x ∷ rest.list) whole (IsPermutation-cons x xs rest.list rest.moved) (IsPermutation-insert rest.list p.at x);
      up = IsNonDecreasingBy-insert n rest.list p.at x rest.up p.inside p.before p.after;
    }

-- ---- the lists of a world

same-or-not : (xs ys : List ℕ) → Ordered 0 ys → OrNot (AreSame xs ys)
same-or-not xs ys o =
    let s = sorted (λ (n : ℕ). n) xs in
    let is = sorted-is xs s.list ys s.moved s.up o in
    by-or-not (s.list ≡ ys) (AreSame xs ys) is.0 is.1 (list-or-not s.list ys)

coded-or-not : (gs : List Genotype) → OrNot (AreCodedOnce gs)
coded-or-not [] = inl (λ code. omega arith)
coded-or-not (g ∷ gs) =
    by-or-not (AreCodedOnce gs × (times_coded gs g.code ≡ 0)) (AreCodedOnce (g ∷ gs)) (λ h. more h.0 h.1) fewer
    (both-or-not (AreCodedOnce gs) (times_coded gs g.code ≡ 0) (coded-or-not gs) (cases_eq (times_coded gs g.code) 0))
  where
    more : AreCodedOnce gs → times_coded gs g.code ≡ 0 → AreCodedOnce (g ∷ gs)
    more once none code = go (bytes_eq g.code code) (bytes_eq-Decides g.code code).0 (once code)
      where
        go : (b : Bool) → (b ≡ true → g.code ≡ code) → times_coded gs code ≤ 1 → one_if b + times_coded gs code ≤ 1
        go true same old = (let zero = subst (λ c. times_coded gs c ≡ 0) (same refl) none in omega (arith, zero))
        go false same old = omega (arith, old)

    fewer : AreCodedOnce (g ∷ gs) → AreCodedOnce gs × (times_coded gs g.code ≡ 0)
    fewer once = (
      λ code. (let o = once code in omega (arith, o)),
      own (bytes_eq g.code g.code) ((bytes_eq-Decides g.code g.code).1 refl) (once g.code),
    )
      where
        own : (b : Bool) → b ≡ true → one_if b + times_coded gs g.code ≤ 1 → times_coded gs g.code ≡ 0
        own true e o = omega (arith, o)
        own false e o = absurd cc

-- genotypes that there are not
total-past : (fs : List StoredGenotype) (k : ℕ) → length fs ≤ k → (genotype_at (genotypes_of fs) k).total ≡ 0
total-past [] k le = refl
total-past (f ∷ fs) zero le = absurd (omega (arith, le))
total-past (f ∷ fs) (suc k) le = total-past fs k (omega (arith, le))

abbrev is_known : ℕ → Saving → Bool
is_known n s = nat_lt s.genotype n

saved-past : (n k : ℕ) (ss : List Saving) → All (λ s. s.genotype < n) ss → n ≤ k → times_in (numbers_of (savings_of ss)) k ≡ 0
saved-past n k [] all le = refl
saved-past n k (s ∷ ss) all le =
    let first = All-head (λ (x : Saving). x.genotype < n) s ss all in
    let rest = saved-past n k ss (All-tail (λ (x : Saving). x.genotype < n) s ss all) le in
    let low : one_if (s.genotype == k) ≡ 0 = grind (arith, nat_tests) in
    omega (arith, low, rest)

-- as often saved as it should be
abbrev IsDue : ℕ → List StoredGenotype → List Saving → ℕ → Type 0
IsDue at fs ss k = times_in (numbers_of (savings_of ss)) k ≡ one_if (nat_le at (genotype_at (genotypes_of fs) k).total)

due-past : (at : ℕ) (fs : List StoredGenotype) (ss : List Saving) (k : ℕ) → 1 ≤ at → All (λ s. s.genotype < length fs) ss → length fs ≤ k
    → IsDue at fs ss k
due-past at fs ss k one known past = saved-past (length fs) k ss known past ∙ sym (low (total-past fs k past))
  where
    low : (genotype_at (genotypes_of fs) k).total ≡ 0 → one_if (nat_le at (genotype_at (genotypes_of fs) k).total) ≡ 0
    low none = grind (arith, nat_tests)

due-all : (at : ℕ) (fs : List StoredGenotype) (ss : List Saving) → 1 ≤ at → All (λ s. s.genotype < length fs) ss
    → ((k : ℕ) → k < length fs → IsDue at fs ss k) → AreDue at (genotypes_of fs) (savings_of ss)
due-all at fs ss one known rows k =
    elim (cases_lt k (length fs)) [
      | inl lt ↦ rows k lt
      | inr past ↦ due-past at fs ss k one known past
    ]

due-or-not : (at : ℕ) (fs : List StoredGenotype) (ss : List Saving) → 1 ≤ at → OrNot (AreDue at (genotypes_of fs) (savings_of ss))
due-or-not at fs ss one =
    by-or-not (All (λ (s : Saving). s.genotype < length fs) ss × ((k : ℕ) → k < length fs → IsDue at fs ss k))
    (AreDue at (genotypes_of fs) (savings_of ss)) (λ h. due-all at fs ss one h.0 h.1)
    (λ due. (saved-known at fs ss one due, λ k lt. due k))
    (both-or-not (All (λ (s : Saving). s.genotype < length fs) ss) ((k : ℕ) → k < length fs → IsDue at fs ss k)
    (test-or-not (list_all (is_known (length fs)) ss) (All (λ (s : Saving). s.genotype < length fs) ss)
    (all-decides (is_known (length fs)) (λ (s : Saving). s.genotype < length fs) (λ s. lt-decides s.genotype (length fs)) ss))
    (below-or-not (IsDue at fs ss)
    (λ k. cases_eq (times_in (numbers_of (savings_of ss)) k) (one_if (nat_le at (genotype_at (genotypes_of fs) k).total))) (length fs)))

-- ---- the world that is told

counts-or-not : (w : World) → OrNot (HasCounts w)
counts-or-not w =
    by-or-not
    ((w.quanta ≤ MOST_QUANTA) × ((w.next_birth ≤ count_limit w.quanta) × ((0 < length w.living) × ((w.births < w.next_birth)
    × ((length w.genotypes < w.next_birth) × (length w.living + w.deaths + 1 ≡ w.next_birth))))))
    (HasCounts w)
    (λ h. record {
      quanta = h.0;
      next_birth = h.1.0;
      some = h.1.1.0;
      births = h.1.1.1.0;
      genotype_count = h.1.1.1.1.0;
      living_and_dead = h.1.1.1.1.1;
    })
    (λ c. (c.quanta, (c.next_birth, (c.some, (c.births, (c.genotype_count, c.living_and_dead))))))
    (both-or-not _ _ (le-or-not w.quanta MOST_QUANTA)
    (both-or-not _ _ (le-or-not w.next_birth (count_limit w.quanta))
    (both-or-not _ _ (lt-or-not 0 (length w.living))
    (both-or-not _ _ (lt-or-not w.births w.next_birth)
    (both-or-not _ _ (lt-or-not (length w.genotypes) w.next_birth)
    (cases_eq (length w.living + w.deaths + 1) w.next_birth))))))

module _ (chosen : Settings) (parts : StateParts) (living : List Creature) (moved : IsPermutation parts.1.1.0 living) where
  abbrev line : List Creature
  line = parts.1.1.0

  abbrev stored : List StoredGenotype
  stored = parts.1.1.1.1.0

  abbrev saved : List Saving
  saved = parts.1.1.1.1.1

  abbrev told : World
  told = made_of chosen parts living (ids_of line)

  parts-or-not : OrNot (HasParts told)
  parts-or-not =
      by-or-not
      ((length told.soup ≡ chosen.soup_size) × (All (λ v. v < 32) told.soup
      × (AreLiving chosen.soup_size (length told.genotypes) told.next_birth (count_limit told.quanta) living
      × (AreGenotypes (count_limit told.quanta) (genotypes_of stored) × AreSavings told.quanta (savings_of saved)))))
      (HasParts told)
      (λ h. record { cells = h.0; codes = h.1.0; living = h.1.1.0; genotypes = h.1.1.1.0; saved = h.1.1.1.1 })
      (λ p. (p.cells, (p.codes, (p.living, (p.genotypes, p.saved)))))
      (both-or-not _ _ (cases_eq (length told.soup) chosen.soup_size)
      (both-or-not _ _ (test-or-not (list_all is_code_number told.soup) _ (all-decides is_code_number (λ v. v < 32) cell-decides told.soup))
      (both-or-not _ _
      (test-or-not (are_living chosen.soup_size (length told.genotypes) told.next_birth (count_limit told.quanta) living) _
      (living-decide chosen.soup_size (length told.genotypes) told.next_birth (count_limit told.quanta) living))
      (both-or-not _ _ (test-or-not (are_found (count_limit told.quanta) stored) _ (found-decide (count_limit told.quanta) stored))
      (test-or-not (are_saved told.quanta saved) _ (saved-decide told.quanta saved))))))

  apart-or-not : HasParts told → OrNot (IsApart told)
  apart-or-not p =
      let s = sorted (λ (b : Block). b.at) (blocks_in living) in
      test-or-not (passes apart_step 0 s.list) (IsApart told) (apart-is chosen.soup_size living s.list p.living.placed s.moved s.up)

  matched-or-not : HasParts told → OrNot (IsMatched told)
  matched-or-not p =
      by-or-not
      (AreSame told.reaper (ids_of living) × (IsApart told × (AreCodedOnce (genotypes_of stored)
      × AreDue chosen.save_at (genotypes_of stored) (savings_of saved))))
      (IsMatched told)
      (λ h. record {
        slicer = λ id. sym (times-permuted line living moved id);
        reaper = h.0;
        apart = h.1.0;
        coded_once = h.1.1.0;
        saved = h.1.1.1;
      })
      (λ m. (m.reaper, (m.apart, (m.coded_once, m.saved))))
      (both-or-not _ _ (same-or-not told.reaper (ids_of living) (ordered-lower (ids_of living) p.living.ordered))
      (both-or-not _ _ (apart-or-not p)
      (both-or-not _ _ (coded-or-not (genotypes_of stored)) (due-or-not chosen.save_at stored saved chosen.saving.0))))

  sizes-or-not : HasParts told → OrNot (HasSizes told)
  sizes-or-not p =
      test-or-not (passes (size_step stored) (0, 0) saved) (HasSizes told) (sizes-are stored saved p.saved.rising)

  sound-or-not : OrNot (IsSound told)
  sound-or-not =
      elim (counts-or-not told) [
        | inr none ↦ inr (λ s. none (sound-counts told s))
        | inl n ↦ elim parts-or-not [
          | inr none ↦ inr (λ s. none (sound-parts told s))
          | inl p ↦ by-or-not (IsMatched told × HasSizes told) (IsSound told) (λ h. sound-from told n p h.0 h.1)
              (λ s. (sound-matched told s, s.sizes))
              (both-or-not _ _ (matched-or-not p) (sizes-or-not p))
        ]
      ]

  world-or-not : (bytes rest : List ℕ) → IsBytes bytes → state_at bytes ≡ Some (parts, rest) → OrNot (AreBytesOf chosen bytes told)
  world-or-not bytes rest ok read =
      by-or-not (IsSound told × (state_bytes told ≡ bytes)) (AreBytesOf chosen bytes told)
      (λ h. record {
        settings = refl;
        sound = h.0;
        types = types-fit chosen bytes parts rest living (ids_of line) ok read moved;
        bytes = h.1;
      })
      (λ a. (a.sound, a.bytes)) (both-or-not _ _ sound-or-not (list-or-not (state_bytes told) bytes))

pub state-or-not : (chosen : Settings) (bytes : List ℕ) → IsBytes bytes → OrNot (IsStateOf chosen bytes)
state-or-not chosen bytes ok = read (state_at bytes) refl
  where
    read : (o : Option (StateParts × List ℕ)) → state_at bytes ≡ o → OrNot (IsStateOf chosen bytes)
    read None is = inr (λ s. none_told chosen bytes stop.Malformed is refl s.0 s.1)
    read (Some (parts, rest)) is =
        let s = sorted (λ (c : Creature). c.id) parts.1.1.0 in
        let w = made_of chosen parts s.list (ids_of parts.1.1.0) in
        by-or-not (AreBytesOf chosen bytes w) (IsStateOf chosen bytes) (λ a. (w, a))
        (λ v. subst (AreBytesOf chosen bytes) (sym (draft_is chosen bytes parts rest s.list (ids_of parts.1.1.0) is s.moved s.up refl v.0 v.1)) v.1)
        (world-or-not chosen parts s.list s.moved bytes rest ok is)
