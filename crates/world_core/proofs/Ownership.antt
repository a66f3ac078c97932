-- The free cells as records are put in and creatures die: a cell has one owner at most.
use Rattle.std.proofs.Common.{◌≡◌, ℕ, ◌+◌, ◌<◌, ◌≤◌, Bool, true, false, List, refl, sym, ◌∙◌, ap, arith}
use Rattle.std.proofs.lemmas.Bool.Decides.{nat_tests}
use Rattle.std.specs.Prelude.{IfSome, None, Option, Some, nat_lt, not, ◌&&◌, ◌||◌}
use Rattle.tierra_model.specs.declared.creatures.Block.{Block}
use Rattle.tierra_model.specs.declared.creatures.Creature.{Creature}
use Rattle.tierra_model.specs.Counting.{one_if, times_in}
use Rattle.tierra_model.specs.Blocks.{is_in, is_in_daughter}
use Rattle.tierra_model.specs.FreeList.{is_in_some, runs_of}
use Rattle.tierra_model.specs.Room.{holds, is_owned}
use Rattle.tierra_model.specs.Sound.{IsPlaced, owners, owners_of}
use Rattle.tierra_model.specs.Living.{ids_of, one_of, without}
use Rattle.tierra_model.proofs.Owners.{is_here-times, is_owned-owners, sum_of-without}
use Rattle.tierra_model.specs.Ranges.{IsBlock}
use Rattle.tierra_model.proofs.Free.{runs_of_in}
use Rattle.block_alloc.proofs.Owned.{freed-runs_of, runs_of-alike, taken-runs_of}

abbrev pub free_cells : ℕ → List Creature → List Block
free_cells n living = runs_of n (λ p. not (is_owned living p))

-- ---- the same owners

owned-same : (xs ys : List Creature) (p : ℕ) → owners xs p ≡ owners ys p → is_owned xs p ≡ is_owned ys p
owned-same xs ys p e = is_owned-owners xs p ∙ ap (nat_lt 0) e ∙ sym (is_owned-owners ys p)

pub free-same : (n : ℕ) (xs ys : List Creature) → ((p : ℕ) → owners xs p ≡ owners ys p) → free_cells n xs ≡ free_cells n ys
free-same n xs ys e = λ i. runs_of n (λ p. not (owned-same xs ys p (e p) i))

-- ---- a block is taken

pub more_owned : (b : Bool) (m n : ℕ) → n ≡ m + one_if b → nat_lt 0 n ≡ (nat_lt 0 m || b)
more_owned true m n e = grind (arith, nat_tests)
more_owned false m n e = grind (arith, nat_tests)

pub free-taken : (n : ℕ) (xs ys : List Creature) (b : Block) → ((p : ℕ) → owners ys p ≡ owners xs p + one_if (is_in b p))
    → runs_of n (λ p. is_in_some (free_cells n xs) p && not (is_in b p)) ≡ free_cells n ys
free-taken n xs ys b e =
    let owned : (p : ℕ) → (is_owned xs p || is_in b p) ≡ is_owned ys p
    = λ p. ap (λ (o : Bool). o || is_in b p) (is_owned-owners xs p) ∙ sym (more_owned (is_in b p) (owners xs p) (owners ys p) (e p))
    ∙ sym (is_owned-owners ys p) in
    taken-runs_of n (λ p. is_owned xs p) b ∙ (λ i. runs_of n (λ p. not (owned p i)))

-- ---- a block is given back

less_owned : (b : Bool) (m n : ℕ) → m + one_if b ≡ n → n ≤ 1 → nat_lt 0 m ≡ (nat_lt 0 n && not b)
less_owned true m n e one = grind (arith, nat_tests)
less_owned false m n e one = grind (arith, nat_tests)

pub free-given_back : (n : ℕ) (xs ys : List Creature) (b : Block) → ((p : ℕ) → owners ys p + one_if (is_in b p) ≡ owners xs p) → ((p : ℕ) → owners xs p ≤ 1)
    → runs_of n (λ p. is_in_some (free_cells n xs) p || is_in b p) ≡ free_cells n ys
free-given_back n xs ys b e one =
    let owned : (p : ℕ) → (is_owned xs p && not (is_in b p)) ≡ is_owned ys p
    = λ p. ap (λ (o : Bool). o && not (is_in b p)) (is_owned-owners xs p) ∙ sym (less_owned (is_in b p) (owners ys p) (owners xs p) (e p) (one p))
    ∙ sym (is_owned-owners ys p) in
    freed-runs_of n (λ p. is_owned xs p) b ∙ (λ i. runs_of n (λ p. not (owned p i)))

-- ---- the blocks of a creature are given back

freed-cells : (n : ℕ) (owned given : ℕ → Bool)
    → runs_of n (λ p. is_in_some (runs_of n (λ p. not (owned p))) p || given p) ≡ runs_of n (λ p. not (owned p && not (given p)))
freed-cells n owned given =
    runs_of-alike n (λ p. is_in_some (runs_of n (λ p. not (owned p))) p || given p) (λ p. not (owned p && not (given p)))
    (λ q l. ap (λ (c : Bool). c || given q) (runs_of_in n (λ p. not (owned p)) q l) ∙ grind (arith, nat_tests))

less_held : (a b : Bool) (m n : ℕ) → m + (one_if a + one_if b) ≡ n → n ≤ 1 → nat_lt 0 m ≡ (nat_lt 0 n && not (a || b))
less_held true true m n e one = absurd (let two : m + (1 + 1) ≡ n = e in omega arith)
less_held true false m n e one = grind (arith, nat_tests)
less_held false true m n e one = grind (arith, nat_tests)
less_held false false m n e one = grind (arith, nat_tests)

pub free-died : (n : ℕ) (xs ys : List Creature) (c : Creature) → ((p : ℕ) → owners ys p + owners_of c p ≡ owners xs p) → ((p : ℕ) → owners xs p ≤ 1)
    → runs_of n (λ p. is_in_some (free_cells n xs) p || holds c p) ≡ free_cells n ys
free-died n xs ys c e one =
    let owned : (p : ℕ) → (is_owned xs p && not (holds c p)) ≡ is_owned ys p
    = λ p. ap (λ (o : Bool). o && not (holds c p)) (is_owned-owners xs p)
    ∙ sym (less_held (is_in c.own p) (is_in_daughter c.daughter p) (owners ys p) (owners xs p) (e p) (one p)) ∙ sym (is_owned-owners ys p) in
    freed-cells n (λ p. is_owned xs p) (λ p. holds c p) ∙ (λ i. runs_of n (λ p. not (owned p i)))

-- ---- a block of a creature is owned, and lies in the soup

pub owned_is_not_free : (n : ℕ) (xs : List Creature) (p : ℕ) → p < n → 0 < owners xs p → is_in_some (free_cells n xs) p ≡ false
owned_is_not_free n xs p h some =
    runs_of_in n (λ p. not (is_owned xs p)) p h ∙ ap not (is_owned-owners xs p) ∙ grind (arith, nat_tests)

pub free_is_not_owned : (n : ℕ) (xs : List Creature) (p : ℕ) → p < n → is_owned xs p ≡ false → is_in_some (free_cells n xs) p ≡ true
free_is_not_owned n xs p h none = runs_of_in n (λ p. not (is_owned xs p)) p h ∙ ap not none

pub below_end : (n : ℕ) (b : Block) (p : ℕ) → b.at + b.size ≤ n → is_in b p ≡ true → p < n
below_end n b p k h = grind (arith, nat_tests)

pub in_block : (n : ℕ) (b : Block) (p : ℕ) → IsBlock n b → is_in b p ≡ true → p < n
in_block n b p k h = below_end n b p k.2 h

-- the runs of a list of free runs are that list
pub runs-again : (n : ℕ) (free : List Block) (test : ℕ → Bool) → free ≡ runs_of n test → free ≡ runs_of n (λ p. is_in_some free p)
runs-again n free test e =
    e ∙ sym (runs_of-alike n (λ p. is_in_some (runs_of n test) p) test (λ q l. runs_of_in n test q l))
    ∙ ap (λ (f : List Block). runs_of n (λ p. is_in_some f p)) (sym e)

pub held_daughter : (x : Creature) (b : Block) (p : ℕ) → x.daughter ≡ Some b → is_in b p ≡ true → holds x p ≡ true
held_daughter x b p e h =
    let d : is_in_daughter x.daughter p ≡ true = ap (λ (o : Option Block). is_in_daughter o p) e ∙ h in
    ap (λ (t : Bool). is_in x.own p || t) d ∙ always (is_in x.own p)
  where
    always : (b : Bool) → (b || true) ≡ true
    always true = refl
    always false = refl

holder : (a b : Bool) → (a || b) ≡ true → 0 < one_if a + one_if b
holder true b h = omega arith
holder false true h = omega arith
holder false false h = (let no : false ≡ true = h in cc)

-- what one of the living holds is owned
pub owns_held : (living : List Creature) (x : Creature) (p : ℕ) → 0 < times_in (ids_of living) x.id → ((id : ℕ) → times_in (ids_of living) id ≤ 1)
    → one_of living x.id ≡ x
    → holds x p ≡ true → 0 < owners living p
owns_held living x p here once found held =
    let some : 0 < owners_of x p = holder (is_in x.own p) (is_in_daughter x.daughter p) held in
    let rest : owners (without x.id living) p + owners_of x p ≡ owners living p
    = sym (ap (λ (d : Creature). owners (without x.id living) p + owners_of d p) found)
    ∙ sum_of-without (λ d. owners_of d p) living x.id (is_here-times living x.id here) (once x.id) in
    omega arith

in_daughter : (n : ℕ) (o : Option Block) (p : ℕ) → IfSome o (IsBlock n) → is_in_daughter o p ≡ true → p < n
in_daughter n None p k h = (let no : false ≡ true = h in cc)
in_daughter n (Some b) p k h = in_block n b p k h

pub held_below : (n : ℕ) (x : Creature) (p : ℕ) → IsPlaced n x → holds x p ≡ true → p < n
held_below n x p k h = go (is_in x.own p) (is_in_daughter x.daughter p) (in_block n x.own p k.own) (in_daughter n x.daughter p k.daughter) h
  where
    go : (a b : Bool) → (a ≡ true → p < n) → (b ≡ true → p < n) → (a || b) ≡ true → p < n
    go true b own daughter h = own refl
    go false b own daughter h = daughter h

-- the two blocks of a creature share no cell
pub held_apart : (living : List Creature) (x : Creature) (p : ℕ) → 0 < times_in (ids_of living) x.id → ((id : ℕ) → times_in (ids_of living) id ≤ 1)
    → one_of living x.id ≡ x
    → owners living p ≤ 1 → is_in x.own p ≡ true → is_in_daughter x.daughter p ≡ false
held_apart living x p here once found apart own =
    let rest : owners (without x.id living) p + owners_of x p ≡ owners living p
    = sym (ap (λ (d : Creature). owners (without x.id living) p + owners_of d p) found)
    ∙ sum_of-without (λ d. owners_of d p) living x.id (is_here-times living x.id here) (once x.id) in
    go (is_in_daughter x.daughter p) (let one : one_if (is_in x.own p) ≡ 1 = ap one_if own in omega arith)
  where
    go : (b : Bool) → one_if b ≤ 0 → b ≡ false
    go true h = absurd (let one : 1 ≤ 0 = h in omega arith)
    go false h = refl

-- ---- tests of the cells of a creature

pub holds_daughter : (x : Creature) (p : ℕ) → is_in_daughter x.daughter p ≡ true → holds x p ≡ true
holds_daughter x p h = ap (λ (t : Bool). is_in x.own p || t) h ∙ always (is_in x.own p)
  where
    always : (b : Bool) → (b || true) ≡ true
    always true = refl
    always false = refl

pub not_own : (a b : Bool) → (a ≡ true → b ≡ false) → b ≡ true → a ≡ false
not_own false b h e = refl
not_own true b h e = (let no : false ≡ true = sym (h refl) ∙ e in cc)

pub regroup : (a b c : Bool) → ((a || b) || c) ≡ (a || (b || c))
regroup true b c = refl
regroup false b c = refl
