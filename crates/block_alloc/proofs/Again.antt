-- A block that is given back, and asked for again.
use Rattle.std.proofs.Common.{◌≡◌, ℕ, ◌+◌, ◌-◌, ◌<◌, ◌≤◌, Bool, true, false, List, [], ◌∷◌, Option, Some, None, refl, ◌∙◌, ap, arith, inl, inr, subst, sym}
use Rattle.std.proofs.lemmas.Bool.Decides.{nat_tests, leb_tells, eqb_tells}
use Rattle.std.specs.Prelude.{◌↔◌, ◌==◌, ◌||◌, IsTrue, find, nat_le, not}
use Rattle.tierra_model.specs.declared.creatures.Block.{Block}
use Rattle.tierra_model.specs.Blocks.{is_in}
use Rattle.tierra_model.specs.FreeList.{is_in_some}
use Rattle.tierra_model.specs.Room.{HasRoom, IsFit, first_fit}
use Rattle.tierra_model.proofs.FirstFit.{first_fit_is_least}
use Rattle.block_alloc.specs.Again.{tells}
use Rattle.block_alloc.specs.Runs.{AllBelow, AreRuns}
use Rattle.block_alloc.proofs.Only.{some-below}
use Rattle.block_alloc.proofs.Rising.{block-end}

-- the least address with room is the first fit
fit_is : (n : ℕ) (owned : ℕ → Bool) (size a : ℕ) → HasRoom n owned size a → ((c : ℕ) → c < a → HasRoom n owned size c → ⊥) → first_fit n owned size ≡ Some a
fit_is n owned size a room least = go (first_fit n owned size) (first_fit_is_least n owned size)
  where
    go : (o : Option ℕ) → IsFit n owned size o → o ≡ Some a
    go None f = absurd (f a room)
    go (Some c) f = elim (eqb_tells c a) [
      | inl same ↦ ap (λ (k : ℕ). Some k) same.1
      | inr other ↦ elim (leb_tells c a) [
        | inl before ↦ absurd (least c (let l = before.1 in let o = other.1 in omega arith) f.0)
        | inr behind ↦ absurd (f.1 a (let l = behind.1 in omega arith) room)
      ]
    ]

-- the run that tells, if one does, begins behind the block
abbrev pub is_behind : Block → Option Block → Bool
is_behind b None = true
is_behind b (Some run) = nat_le b.at run.at

-- the block is the first fit, if the run that tells first begins behind it
abbrev is_first : Block → List Block → Bool
is_first b xs = is_behind b (find (tells b) xs)

module _ (n : ℕ) (b : Block) (some : 1 ≤ b.size) where
  abbrev freed : List Block → ℕ → Bool
  freed xs p = is_in_some xs p || is_in b p

  abbrev Apart : List Block → Type 0
  Apart xs = (p : ℕ) → is_in b p ≡ true → is_in_some xs p ≡ false

  abbrev Room : List Block → ℕ → Type 0
  Room xs a = (p : ℕ) → a ≤ p → p < a + b.size → freed xs p ≡ true

  none_sooner : (low : ℕ) (xs : List Block) → AreRuns low n xs → Apart xs → is_first b xs ≡ true → (a : ℕ) → low ≤ a → a < b.at → Room xs a → ⊥
  none_sooner low [] r apart first a l before room =
      let here : freed [] a ≡ true = room a (omega arith) (omega arith) in
      grind (arith, nat_tests)
  none_sooner low (x ∷ xs) r apart first a l before room = go (tells b x) refl (none_sooner (x.at + x.size + 1) xs r.3)
    where
      here : freed (x ∷ xs) a ≡ true
      here = room a (omega arith) (omega arith)

      go : (m : Bool) → tells b x ≡ m → (Apart xs → is_first b xs ≡ true → (a : ℕ) → x.at + x.size + 1 ≤ a → a < b.at → Room xs a → ⊥) → ⊥
      go true e later =
          let behind : nat_le b.at x.at ≡ true = rw (e, is_first) at first in
          let none : is_in_some (x ∷ xs) a ≡ false = some-below x.at n (x ∷ xs) a (omega arith, r.1, r.2, r.3) (grind (arith, nat_tests)) in
          grind (arith, nat_tests)
      go false e later =
          let rest : is_first b xs ≡ true = rw (e, is_first) at first in
          let ahead : x.at < b.at = grind (arith, nat_tests) in
          let short : x.size < b.size = grind (arith, nat_tests) in
          let clear : x.at + x.size ≡ b.at → ⊥ = λ k. grind (arith, nat_tests) in
          elim (leb_tells x.at a) [
            | inr sooner ↦ (
                let none : is_in_some (x ∷ xs) a ≡ false = some-below x.at n (x ∷ xs) a (omega arith, r.1, r.2, r.3) (let s = sooner.1 in omega arith) in
                grind (arith, nat_tests))
            | inl from ↦ elim (leb_tells a (x.at + x.size)) [
              | inl within ↦ (
                  let end : freed (x ∷ xs) (x.at + x.size) ≡ true = room (x.at + x.size) (within.1) (let f = from.1 in omega arith) in
                  let none : is_in_some xs (x.at + x.size) ≡ false = some-below (x.at + x.size + 1) n xs (x.at + x.size) r.3 (omega arith) in
                  let own : is_in_some (x ∷ xs) b.at ≡ false = apart b.at (grind (arith, nat_tests)) in
                  grind (arith, nat_tests))
              | inr past ↦ later (λ p i. let o : is_in_some (x ∷ xs) p ≡ false = apart p i in grind (arith, nat_tests)) rest a
                  (let q = past.1 in omega arith) before
                  (λ p c d. let q = past.1 in let f : freed (x ∷ xs) p ≡ true = room p c d in grind (arith, nat_tests))
            ]
          ]

  -- an address before the block from which as many cells are free
  record IsSooner (xs : List Block) (a : ℕ) : Type 0 where
    pub before : a < b.at
    pub within : a + b.size ≤ n
    pub room : Room xs a

  one_sooner : (low : ℕ) (xs : List Block) → AreRuns low n xs → b.at + b.size ≤ n → is_first b xs ≡ false → (a : ℕ) × IsSooner xs a
  one_sooner low [] r fits first = absurd (grind (arith, nat_tests))
  one_sooner low (x ∷ xs) r fits first = go (tells b x) refl (one_sooner (x.at + x.size + 1) xs r.3 fits)
    where
      long : (m : Bool) → nat_le b.size x.size ≡ m → x.at < b.at → tells b x ≡ true → (a : ℕ) × IsSooner (x ∷ xs) a
      long true e before met = (
        x.at,
        record {
          before = before;
          within = grind (arith, nat_tests, r.2);
          room = λ p c d. grind (arith, nat_tests);
        },
      )
      long false e before met =
          let ends : x.at + x.size ≡ b.at = grind (arith, nat_tests) in (
            b.at - 1,
            record {
              before = omega arith;
              within = omega arith;
              room = λ p c d. let k = r.1 in grind (arith, nat_tests);
            },
          )

      go : (m : Bool) → tells b x ≡ m → (is_first b xs ≡ false → (a : ℕ) × IsSooner xs a) → (a : ℕ) × IsSooner (x ∷ xs) a
      go true e later =
          let before : nat_le b.at x.at ≡ false = rw (e, is_first) at first in
          long (nat_le b.size x.size) refl (grind (arith, nat_tests)) e
      go false e later =
          let rest : is_first b xs ≡ false = rw (e, is_first) at first in
          let s = later rest in (
            s.0,
            record {
              before = s.1.before;
              within = s.1.within;
              room = λ p c d. let f : freed xs p ≡ true = s.1.room p c d in grind (arith, nat_tests);
            },
          )

  again : (xs : List Block) → AreRuns 0 n xs → b.at + b.size ≤ n → Apart xs
      → IsTrue (is_first b xs) ↔ (first_fit n (λ p. not (freed xs p)) b.size ≡ Some b.at)
  again xs r fits apart = (there, back)
    where
      owned : ℕ → Bool
      owned p = not (freed xs p)

      taken : (p : ℕ) → not (freed xs p) ≡ false → freed xs p ≡ true
      taken p e = grind (arith, nat_tests)

      there : IsTrue (is_first b xs) → first_fit n (λ p. not (freed xs p)) b.size ≡ Some b.at
      there first =
          fit_is n (λ p. not (freed xs p)) b.size b.at
          (fits, λ p c d. grind (arith, nat_tests))
          (λ a before room. none_sooner 0 xs r apart first a (omega arith) before (λ p c d. taken p (room.1 p c d)))

      back : first_fit n (λ p. not (freed xs p)) b.size ≡ Some b.at → IsTrue (is_first b xs)
      back e = go (is_first b xs) refl
        where
          go : (m : Bool) → is_first b xs ≡ m → is_first b xs ≡ true
          go true k = k
          go false k =
              let s = one_sooner 0 xs r fits k in
              let f : IsFit n (λ p. not (freed xs p)) b.size (Some b.at) = rw e at (first_fit_is_least n (λ p. not (freed xs p)) b.size) in
              absurd (f.1 s.0 s.1.before (s.1.within, λ p c d. ap not (s.1.room p c d)))

  -- the run that tells first tells whether the block is the first fit once it is given back
  pub first_again : (xs : List Block) (o : Option Block) → AreRuns 0 n xs → AllBelow n b → Apart xs → o ≡ find (tells b) xs
      → IsTrue (is_behind b o) ↔ (first_fit n (λ p. not (freed xs p)) b.size ≡ Some b.at)
  first_again xs o r below apart told =
      subst (λ (p : Option Block). IsTrue (is_behind b p) ↔ (first_fit n (λ q. not (freed xs q)) b.size ≡ Some b.at)) (sym told)
      (again xs r (block-end n b some below) apart)
