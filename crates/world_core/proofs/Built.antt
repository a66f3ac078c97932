-- The parts of a world as they are put together, one creature after another.
use Rattle.std.proofs.Common.{◌≡◌, ◌∙◌, ℕ, zero, suc, ◌+◌, ◌<◌, ◌≤◌, ◌^◌, ◌==◌, List, [], ◌∷◌, ◌++◌, refl, sym, ap, arith, drop, get_or, length, take, true}
use Rattle.std.specs.Prelude.{All, nat_lt, not, replicate, ◌&&◌, ◌||◌}
use Rattle.std.proofs.lemmas.Bool.Decides.{nat_tests}
use Rattle.std.proofs.lemmas.List.{append-nil, drop_all, length-replicate, length-take, take_all, take_more}
use Rattle.tierra_model.specs.declared.creatures.Block.{Block}
use Rattle.tierra_model.specs.declared.creatures.Creature.{Creature}
use Rattle.tierra_model.specs.Blocks.{is_in}
use Rattle.tierra_model.specs.Counting.{one_if, sum_of, times_in}
use Rattle.tierra_model.specs.FreeList.{is_in_some, runs_of}
use Rattle.tierra_model.specs.Living.{ids_of}
use Rattle.tierra_model.specs.Ranges.{IsBlock}
use Rattle.tierra_model.specs.Room.{is_owned}
use Rattle.tierra_model.specs.Serial.{overwrite}
use Rattle.tierra_model.specs.Sound.{IsPlaced, Ordered}
use Rattle.tierra_model.proofs.Each.{all_from_each, each_from_all}
use Rattle.tierra_model.proofs.Free.{runs_of_in}
use Rattle.tierra_model.proofs.Owners.{is_owned-owners, sum_of-append}
use Rattle.block_alloc.proofs.Owned.{taken-runs_of}
use Rattle.world_state.specs.Checks.{blocks_in, covers}
use Rattle.world_state.proofs.ApartBlocks.{all-lie, covers-living}
use Rattle.world_state.proofs.BirthNumbers.{id-at_least}
use Rattle.world_core.specs.Running.{number_with}
use Rattle.world_core.proofs.Ownership.{more_owned}
use Rattle.world_core.proofs.Tying.{few_counted}

-- ---- sums along a list

pub sum-more : {X : Type 0} (f : X → ℕ) (xs : List X) (k : ℕ) (d : X) → k < length xs
    → sum_of f (take (k + 1) xs) ≡ sum_of f (take k xs) + f (get_or xs k d)
sum-more f xs k d lt =
    let sum = sum_of-append f (take k xs) (get_or xs k d ∷ []) in
    ap (sum_of f) (take_more xs k d lt) ∙ omega (arith, sum)

-- the first ones and the next are no more than all
pub sum-part : {X : Type 0} (f : X → ℕ) (xs : List X) (k : ℕ) (d : X) → k < length xs
    → sum_of f (take k xs) + f (get_or xs k d) ≤ sum_of f xs
sum-part f [] k d lt = absurd (omega (arith, lt))
sum-part f (x ∷ xs) zero d lt = omega arith
sum-part f (x ∷ xs) (suc k) d lt = (let rest = sum-part f xs k d (omega (arith, lt)) in omega (arith, rest))

-- ---- the cells

take-none : (xs : List ℕ) → take 0 xs ≡ []
take-none [] = refl
take-none (x ∷ xs) = refl

pub cells-whole : (n : ℕ) (xs : List ℕ) (k : ℕ) → length xs ≡ n → length xs ≤ k → overwrite (replicate n 0) 0 (take k xs) ≡ xs
cells-whole n xs k len le =
    let zeros : List ℕ = replicate n 0 in
    let rest : drop (0 + length xs) zeros ≡ [] = drop_all (0 + length xs) zeros (omega (arith, length-replicate {A = ℕ} n 0, len)) in
    ap (overwrite zeros 0) (take_all k xs le) ∙ ap (λ (l : List ℕ). l ++ xs ++ drop (0 + length xs) zeros) (take-none zeros)
    ∙ ap (λ (l : List ℕ). xs ++ l) rest ∙ append-nil xs

-- ---- birth numbers

pub none-yet : (low : ℕ) (xs : List Creature) (k : ℕ) (d : Creature) → Ordered low (ids_of xs) → k < length xs
    → (id : ℕ) → (get_or xs k d).id ≤ id → times_in (ids_of (take k xs)) id ≡ 0
none-yet low [] k d o lt id le = absurd (omega (arith, lt))
none-yet low (x ∷ xs) zero d o lt id le = refl
none-yet low (x ∷ xs) (suc k) d o lt id le =
    let next = id-at_least (x.id + 1) xs k d o.1 (omega (arith, lt)) in
    let rest : times_in (ids_of (take k xs)) id ≡ 0 = none-yet (x.id + 1) xs k d o.1 (omega (arith, lt)) id le in
    grind (arith, nat_tests)

pub listed-once : (xs : List ℕ) (k d : ℕ) → k < length xs → 0 < times_in xs (get_or xs k d)
listed-once [] k d lt = absurd (omega (arith, lt))
listed-once (x ∷ xs) zero d lt = grind (arith, nat_tests)
listed-once (x ∷ xs) (suc k) d lt = (let more = listed-once xs k d (omega (arith, lt)) in omega (arith, more))

pub none-twice : (xs : List ℕ) (k d : ℕ) → k < length xs → ((id : ℕ) → times_in xs id ≤ 1) → times_in (take k xs) (get_or xs k d) ≡ 0
none-twice xs k d lt once = go xs k lt (once (get_or xs k d))
  where
    go : (ys : List ℕ) (j : ℕ) → j < length ys → times_in ys (get_or ys j d) ≤ 1 → times_in (take j ys) (get_or ys j d) ≡ 0
    go [] j lt one = absurd (omega (arith, lt))
    go (y ∷ ys) zero lt one = refl
    go (y ∷ ys) (suc j) lt one =
        let some = listed-once ys j d (omega (arith, lt)) in
        let rest = go ys j (omega (arith, lt)) (omega (arith, one)) in
        omega (arith, one, some, rest)

-- ---- the living of a genotype

pub number-few : (xs : List Creature) (k g n : ℕ) → length xs < 2 ^ 60 → n ≡ number_with (take k xs) g → n < 2 ^ 60
number-few xs k g n few is = omega (arith, is, few, few_counted (take k xs) g, length-take k xs)

pub number-next : (xs : List Creature) (k g n m : ℕ) (d : Creature) → k < length xs → n ≡ number_with (take k xs) g
    → m ≡ n + one_if ((get_or xs k d).genotype == g) → m ≡ number_with (take (k + 1) xs) g
number-next xs k g n m d lt is next =
    omega (arith, is, next, sum-more (λ (c : Creature). one_if (c.genotype == g)) xs k d lt)

-- ---- blocks

-- what is left of a soup of n cells when these are taken
abbrev pub left_by : ℕ → List Block → List Block
left_by n bs = runs_of n (λ p. not (nat_lt 0 (covers bs p)))

pub next-free : (n : ℕ) (bs : List Block) (k : ℕ) (d : Block) (p : ℕ) → k < length bs → ((q : ℕ) → covers bs q ≤ 1) → p < n
    → is_in (get_or bs k d) p ≡ true → is_in_some (left_by n (take k bs)) p ≡ true
next-free n bs k d p lt apart below here =
    let part = sum-part (λ (b : Block). one_if (is_in b p)) bs k d lt in
    let most = apart p in
    let one : one_if (is_in (get_or bs k d) p) ≡ 1 = ap one_if here in
    let none : covers (take k bs) p ≡ 0 = omega (arith, part, most, one) in
    runs_of_in n (λ q. not (nat_lt 0 (covers (take k bs) q))) p below ∙ ap (λ (m : ℕ). not (nat_lt 0 m)) none

pub left-next : (n : ℕ) (bs : List Block) (k : ℕ) (d : Block) → k < length bs
    → runs_of n (λ p. is_in_some (left_by n (take k bs)) p && not (is_in (get_or bs k d) p)) ≡ left_by n (take (k + 1) bs)
left-next n bs k d lt =
    let owned : (p : ℕ) → (nat_lt 0 (covers (take k bs) p) || is_in (get_or bs k d) p) ≡ nat_lt 0 (covers (take (k + 1) bs) p)
    = λ p. sym (more_owned (is_in (get_or bs k d) p) (covers (take k bs) p) (covers (take (k + 1) bs) p)
    (sum-more (λ (b : Block). one_if (is_in b p)) bs k d lt)) in
    taken-runs_of n (λ p. nat_lt 0 (covers (take k bs) p)) (get_or bs k d) ∙ (λ i. runs_of n (λ p. not (owned p i)))

pub left-free : (n : ℕ) (living : List Creature) → left_by n (blocks_in living) ≡ runs_of n (λ p. not (is_owned living p))
left-free n living =
    let same : (p : ℕ) → nat_lt 0 (covers (blocks_in living) p) ≡ is_owned living p
    = λ p. ap (nat_lt 0) (covers-living living p) ∙ sym (is_owned-owners living p) in
    (λ i. runs_of n (λ p. not (same p i)))

pub blocks-lie : (n : ℕ) (living : List Creature) → All (IsPlaced n) living → All (IsBlock n) (blocks_in living)
blocks-lie n living placed =
    all_from_each (IsBlock n) (blocks_in living) (all-lie n living (each_from_all (IsPlaced n) living placed))
