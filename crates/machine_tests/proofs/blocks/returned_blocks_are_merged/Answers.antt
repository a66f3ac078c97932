use Rattle.std.proofs.Common.{◌≡◌, ◌∙◌, ◌+◌, ◌<◌, ◌≤◌, ℕ, Bool, List, ap, arith, refl, subst, sym, true, false}
use Rattle.std.proofs.lemmas.Bool.Decides.{nat_tests}
use Rattle.std.specs.Prelude.{not, ◌&&◌, ◌||◌}
use Rattle.tierra_model.specs.declared.creatures.Block.{Block}
use Rattle.tierra_model.specs.Blocks.{is_in}
use Rattle.tierra_model.specs.FreeList.{is_in_some, runs_of}
use Rattle.tierra_model.proofs.Free.{runs_of_in}
use Rattle.machine_tests.proofs.blocks.returned_blocks_are_merged.Goals as goal

-- the runs are those of the free cells among 100
record Frees (size : ℕ) (runs : List Block) (free : ℕ → Bool) : Type 0 where
  all : size ≡ 100
  cells : (q : ℕ) → q < 100 → is_in_some runs q ≡ free q

frees : (n : ℕ) (runs : List Block) (free : ℕ → Bool) → n ≡ 100 → runs ≡ runs_of n free → Frees n runs free
frees n runs free e same = record {
  all = e;
  cells = λ q l. ap (λ (r : List Block). is_in_some r q) same ∙ runs_of_in n free q (subst (λ (m : ℕ). q < m) (sym e) l);
}

kept : (n m : ℕ) (old new : List Block) (free : ℕ → Bool) → Frees n old free → m ≡ n → new ≡ old → Frees m new free
kept n m old new free f e same = record { all = e ∙ f.all; cells = λ q l. ap (λ (r : List Block). is_in_some r q) same ∙ f.cells q l }

taken : (n m : ℕ) (old new : List Block) (free : ℕ → Bool) (b : Block) → Frees n old free → m ≡ n
    → new ≡ runs_of n (λ p. is_in_some old p && not (is_in b p)) → Frees m new (λ p. free p && not (is_in b p))
taken n m old new free b f e same =
    let next = frees n new (λ p. is_in_some old p && not (is_in b p)) f.all same in
    record { all = e ∙ f.all; cells = λ q l. next.cells q l ∙ ap (λ (c : Bool). c && not (is_in b q)) (f.cells q l) }

freed : (n m : ℕ) (old new : List Block) (free : ℕ → Bool) (b : Block) → Frees n old free → m ≡ n
    → new ≡ runs_of n (λ p. is_in_some old p || is_in b p) → Frees m new (λ p. free p || is_in b p)
freed n m old new free b f e same =
    let next = frees n new (λ p. is_in_some old p || is_in b p) f.all same in
    record { all = e ∙ f.all; cells = λ q l. next.cells q l ∙ ap (λ (c : Bool). c || is_in b q) (f.cells q l) }

below : (at size p : ℕ) → is_in (record { at = at; size = size }) p ≡ true → at + size ≤ 100 → p < 100
below at size p h l = grind (arith, nat_tests)

second : (p : ℕ) → is_in (record { at = 40; size = 10 }) p ≡ true → (true && not (is_in (record { at = 0; size = 40 }) p)) ≡ true
second p h = grind (arith, nat_tests)

third : (p : ℕ) → is_in (record { at = 50; size = 40 }) p ≡ true
    → ((true && not (is_in (record { at = 0; size = 40 }) p)) && not (is_in (record { at = 40; size = 10 }) p)) ≡ true
third p h = grind (arith, nat_tests)

second-owned : (p : ℕ) → is_in (record { at = 40; size = 10 }) p ≡ true
    → (((true && not (is_in (record { at = 0; size = 40 }) p)) && not (is_in (record { at = 40; size = 10 }) p)) && not
    (is_in (record { at = 50; size = 40 }) p)) ≡ false
second-owned p h = grind (arith, nat_tests)

third-owned : (p : ℕ) → is_in (record { at = 50; size = 40 }) p ≡ true
    → ((((true && not (is_in (record { at = 0; size = 40 }) p)) && not (is_in (record { at = 40; size = 10 }) p)) && not
    (is_in (record { at = 50; size = 40 }) p)) || is_in (record { at = 40; size = 10 }) p) ≡ false
third-owned p h = grind (arith, nat_tests)

pub take-requires-2-clause-free : goal.take-requires-2-clause-free
take-requires-2-clause-free g c p h =
    let all = frees 100 c.in_ok-blocks.blocks.free (λ p. true) refl c.in_ok-blocks.ensures.free in
    let start = kept 100 c.in_ok-blocks.blocks.size c.in_ok-blocks.blocks.free c.in_ok-blocks.blocks.free (λ p. true) all c.in_ok-blocks.ensures.size refl in
    let f0 = kept c.in_ok-blocks.blocks.size c.reserve.new.self.size c.in_ok-blocks.blocks.free c.reserve.new.self.free (λ p. true) start
    c.in_ok-reserve.ensures.size c.in_ok-reserve.ensures.free in
    let f1 = taken c.reserve.new.self.size c.take.new.self.size c.reserve.new.self.free c.take.new.self.free (λ p. true)
    (record { at = 0; size = 40 }) f0 c.take.ensures.size c.take.ensures.free in
    f1.cells p (below 40 10 p h (omega arith)) ∙ second p h

pub take-requires-3-clause-free : goal.take-requires-3-clause-free
take-requires-3-clause-free g c p h =
    let all = frees 100 c.in_ok-blocks.blocks.free (λ p. true) refl c.in_ok-blocks.ensures.free in
    let start = kept 100 c.in_ok-blocks.blocks.size c.in_ok-blocks.blocks.free c.in_ok-blocks.blocks.free (λ p. true) all c.in_ok-blocks.ensures.size refl in
    let f0 = kept c.in_ok-blocks.blocks.size c.reserve.new.self.size c.in_ok-blocks.blocks.free c.reserve.new.self.free (λ p. true) start
    c.in_ok-reserve.ensures.size c.in_ok-reserve.ensures.free in
    let f1 = taken c.reserve.new.self.size c.take.new.self.size c.reserve.new.self.free c.take.new.self.free (λ p. true)
    (record { at = 0; size = 40 }) f0 c.take.ensures.size c.take.ensures.free in
    let f2 = taken c.take.new.self.size c.take-2.new.self.size c.take.new.self.free c.take-2.new.self.free
    (λ p. true && not (is_in (record { at = 0; size = 40 }) p)) (record { at = 40; size = 10 }) f1 c.take-2.ensures.size c.take-2.ensures.free in
    f2.cells p (below 50 40 p h (omega arith)) ∙ third p h

pub give_back-requires-clause-within : goal.give_back-requires-clause-within
give_back-requires-clause-within g c p h =
    let all = frees 100 c.in_ok-blocks.blocks.free (λ p. true) refl c.in_ok-blocks.ensures.free in
    let start = kept 100 c.in_ok-blocks.blocks.size c.in_ok-blocks.blocks.free c.in_ok-blocks.blocks.free (λ p. true) all c.in_ok-blocks.ensures.size refl in
    let f0 = kept c.in_ok-blocks.blocks.size c.reserve.new.self.size c.in_ok-blocks.blocks.free c.reserve.new.self.free (λ p. true) start
    c.in_ok-reserve.ensures.size c.in_ok-reserve.ensures.free in
    let f1 = taken c.reserve.new.self.size c.take.new.self.size c.reserve.new.self.free c.take.new.self.free (λ p. true)
    (record { at = 0; size = 40 }) f0 c.take.ensures.size c.take.ensures.free in
    let f2 = taken c.take.new.self.size c.take-2.new.self.size c.take.new.self.free c.take-2.new.self.free
    (λ p. true && not (is_in (record { at = 0; size = 40 }) p)) (record { at = 40; size = 10 }) f1 c.take-2.ensures.size c.take-2.ensures.free in
    let f3 = taken c.take-2.new.self.size c.take-3.new.self.size c.take-2.new.self.free c.take-3.new.self.free
    (λ p. (true && not (is_in (record { at = 0; size = 40 }) p)) && not (is_in (record { at = 40; size = 10 }) p))
    (record { at = 50; size = 40 }) f2 c.take-3.ensures.size c.take-3.ensures.free in
    subst (λ (n : ℕ). p < n) (sym f3.all) (below 40 10 p h (omega arith))

pub give_back-requires-clause-owned : goal.give_back-requires-clause-owned
give_back-requires-clause-owned g c p h =
    let all = frees 100 c.in_ok-blocks.blocks.free (λ p. true) refl c.in_ok-blocks.ensures.free in
    let start = kept 100 c.in_ok-blocks.blocks.size c.in_ok-blocks.blocks.free c.in_ok-blocks.blocks.free (λ p. true) all c.in_ok-blocks.ensures.size refl in
    let f0 = kept c.in_ok-blocks.blocks.size c.reserve.new.self.size c.in_ok-blocks.blocks.free c.reserve.new.self.free (λ p. true) start
    c.in_ok-reserve.ensures.size c.in_ok-reserve.ensures.free in
    let f1 = taken c.reserve.new.self.size c.take.new.self.size c.reserve.new.self.free c.take.new.self.free (λ p. true)
    (record { at = 0; size = 40 }) f0 c.take.ensures.size c.take.ensures.free in
    let f2 = taken c.take.new.self.size c.take-2.new.self.size c.take.new.self.free c.take-2.new.self.free
    (λ p. true && not (is_in (record { at = 0; size = 40 }) p)) (record { at = 40; size = 10 }) f1 c.take-2.ensures.size c.take-2.ensures.free in
    let f3 = taken c.take-2.new.self.size c.take-3.new.self.size c.take-2.new.self.free c.take-3.new.self.free
    (λ p. (true && not (is_in (record { at = 0; size = 40 }) p)) && not (is_in (record { at = 40; size = 10 }) p))
    (record { at = 50; size = 40 }) f2 c.take-3.ensures.size c.take-3.ensures.free in
    f3.cells p (below 40 10 p h (omega arith)) ∙ second-owned p h

pub give_back-requires-2-clause-within : goal.give_back-requires-2-clause-within
give_back-requires-2-clause-within g c p h =
    let all = frees 100 c.in_ok-blocks.blocks.free (λ p. true) refl c.in_ok-blocks.ensures.free in
    let start = kept 100 c.in_ok-blocks.blocks.size c.in_ok-blocks.blocks.free c.in_ok-blocks.blocks.free (λ p. true) all c.in_ok-blocks.ensures.size refl in
    let f0 = kept c.in_ok-blocks.blocks.size c.reserve.new.self.size c.in_ok-blocks.blocks.free c.reserve.new.self.free (λ p. true) start
    c.in_ok-reserve.ensures.size c.in_ok-reserve.ensures.free in
    let f1 = taken c.reserve.new.self.size c.take.new.self.size c.reserve.new.self.free c.take.new.self.free (λ p. true)
    (record { at = 0; size = 40 }) f0 c.take.ensures.size c.take.ensures.free in
    let f2 = taken c.take.new.self.size c.take-2.new.self.size c.take.new.self.free c.take-2.new.self.free
    (λ p. true && not (is_in (record { at = 0; size = 40 }) p)) (record { at = 40; size = 10 }) f1 c.take-2.ensures.size c.take-2.ensures.free in
    let f3 = taken c.take-2.new.self.size c.take-3.new.self.size c.take-2.new.self.free c.take-3.new.self.free
    (λ p. (true && not (is_in (record { at = 0; size = 40 }) p)) && not (is_in (record { at = 40; size = 10 }) p))
    (record { at = 50; size = 40 }) f2 c.take-3.ensures.size c.take-3.ensures.free in
    let f4 = freed c.take-3.new.self.size c.give_back.new.self.size c.take-3.new.self.free c.give_back.new.self.free
    (λ p. ((true && not (is_in (record { at = 0; size = 40 }) p)) && not (is_in (record { at = 40; size = 10 }) p)) && not
    (is_in (record { at = 50; size = 40 }) p)) (record { at = 40; size = 10 }) f3 c.give_back.ensures.size c.give_back.ensures.free in
    subst (λ (n : ℕ). p < n) (sym f4.all) (below 50 40 p h (omega arith))

pub give_back-requires-2-clause-owned : goal.give_back-requires-2-clause-owned
give_back-requires-2-clause-owned g c p h =
    let all = frees 100 c.in_ok-blocks.blocks.free (λ p. true) refl c.in_ok-blocks.ensures.free in
    let start = kept 100 c.in_ok-blocks.blocks.size c.in_ok-blocks.blocks.free c.in_ok-blocks.blocks.free (λ p. true) all c.in_ok-blocks.ensures.size refl in
    let f0 = kept c.in_ok-blocks.blocks.size c.reserve.new.self.size c.in_ok-blocks.blocks.free c.reserve.new.self.free (λ p. true) start
    c.in_ok-reserve.ensures.size c.in_ok-reserve.ensures.free in
    let f1 = taken c.reserve.new.self.size c.take.new.self.size c.reserve.new.self.free c.take.new.self.free (λ p. true)
    (record { at = 0; size = 40 }) f0 c.take.ensures.size c.take.ensures.free in
    let f2 = taken c.take.new.self.size c.take-2.new.self.size c.take.new.self.free c.take-2.new.self.free
    (λ p. true && not (is_in (record { at = 0; size = 40 }) p)) (record { at = 40; size = 10 }) f1 c.take-2.ensures.size c.take-2.ensures.free in
    let f3 = taken c.take-2.new.self.size c.take-3.new.self.size c.take-2.new.self.free c.take-3.new.self.free
    (λ p. (true && not (is_in (record { at = 0; size = 40 }) p)) && not (is_in (record { at = 40; size = 10 }) p))
    (record { at = 50; size = 40 }) f2 c.take-3.ensures.size c.take-3.ensures.free in
    let f4 = freed c.take-3.new.self.size c.give_back.new.self.size c.take-3.new.self.free c.give_back.new.self.free
    (λ p. ((true && not (is_in (record { at = 0; size = 40 }) p)) && not (is_in (record { at = 40; size = 10 }) p)) && not
    (is_in (record { at = 50; size = 40 }) p)) (record { at = 40; size = 10 }) f3 c.give_back.ensures.size c.give_back.ensures.free in
    f4.cells p (below 50 40 p h (omega arith)) ∙ third-owned p h
