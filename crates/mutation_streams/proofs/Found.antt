-- What an entry says of an instruction is what the stream says of it.
use Rattle.std.proofs.Common.{◌≡◌, ℕ, zero, suc, ◌+◌, ◌<◌, ◌≤◌, ◌==◌, List, [], ◌∷◌, ◌++◌, refl, sym, ◌∙◌, ap, arith, inl, inr, Bool, true, false}
use Rattle.std.specs.List.{range_with_len}
use Rattle.std.specs.Prelude.{None, Option, Some, cond, filter, find, is_some, map, not, pos, ℤ, ◌||◌}
use Rattle.std.specs.Ordering.{int_eq}
use Rattle.std.proofs.lemmas.List.{append-nil}
use Rattle.std.proofs.lemmas.List.FromFn.{filter_of_map_range_with_len_more}
use Rattle.std.proofs.lemmas.Bool.Decides.{Decides-int_eq, eqb_tells}
use Rattle.tierra_model.specs.Draw.{copy_bit, flaw, word}
use Rattle.mutation_streams.specs.declared.entry.Chance.{Chance}
use Rattle.mutation_streams.specs.Draws.{DrawFields}
use Rattle.mutation_streams.specs.Entries.{chance_of, copy_bit_due, due_at, entry_of, flaw_due, is_any}

module _ (d : DrawFields) (i : ℕ) where
  abbrev listed_from : ℕ → ℕ → List Chance
  listed_from a n = filter is_any (map (chance_of d) (range_with_len a n))

  abbrev found_in : List Chance → Option Chance
  found_in xs = find (λ c. c.instruction == i) xs

  skips : (b : Bool) (c : Chance) (rest : List Chance) → (c.instruction == i) ≡ false → found_in (cond b (c ∷ rest) rest) ≡ found_in rest
  skips true c rest other = ap (λ (t : Bool). cond t (Some c) (found_in rest)) other
  skips false c rest other = refl

  finds : (b : Bool) (c : Chance) (rest : List Chance) → (c.instruction == i) ≡ true → found_in rest ≡ None
      → found_in (cond b (c ∷ rest) rest) ≡ cond b (Some c) None
  finds true c rest here none = ap (λ (t : Bool). cond t (Some c) (found_in rest)) here
  finds false c rest here none = none

  -- an instruction before the first is not found
  not_before : (a n : ℕ) → i < a → found_in (listed_from a n) ≡ None
  not_before a zero h = refl
  not_before a (suc n) h = elim (eqb_tells a i) [
    | inl e ↦ absurd (let k : ⊥ = omega (arith, h, e.1) in k)
    | inr e ↦ skips (is_any (chance_of d a)) (chance_of d a) (listed_from (a + 1) n) e.0 ∙ not_before (a + 1) n (omega (arith, h))
  ]

  found : (a n : ℕ) → a ≤ i → i < a + n → found_in (listed_from a n) ≡ cond (is_any (chance_of d i)) (Some (chance_of d i)) None
  found a zero low high = absurd (let k : ⊥ = omega (arith, low, high) in k)
  found a (suc n) low high = elim (eqb_tells a i) [
    | inl e ↦
        finds (is_any (chance_of d a)) (chance_of d a) (listed_from (a + 1) n) e.0 (not_before (a + 1) n (omega (arith, e.1)))
        ∙ ap (λ (k : ℕ). cond (is_any (chance_of d k)) (Some (chance_of d k)) None) e.1
    | inr e ↦ skips (is_any (chance_of d a)) (chance_of d a) (listed_from (a + 1) n) e.0 ∙ found (a + 1) n (omega (arith, low, e.1)) (omega (arith, high))
  ]

-- what is not listed does nothing
is_zero : (b : Bool) (o : Option ℕ) → (not b || is_some o) ≡ false → b ≡ true
is_zero true o e = refl
is_zero false o e = cc

no_flaw : (f : ℤ) (o : Option ℕ) → (not (int_eq f (pos 0)) || is_some o) ≡ false → f ≡ pos 0
no_flaw f o e = (Decides-int_eq f (pos 0)).0 (is_zero (int_eq f (pos 0)) o e)

no_bit : (b : Bool) (o : Option ℕ) → (b || is_some o) ≡ false → o ≡ None
no_bit true o e = cc
no_bit false None e = refl
no_bit false (Some x) e = cc

flaw_of_any : (c : Chance) (b : Bool) → is_any c ≡ b → flaw_due (cond b (Some c) None) ≡ c.flaw
flaw_of_any c true e = refl
flaw_of_any c false e = sym (no_flaw c.flaw c.copy_bit e)

bit_of_any : (c : Chance) (b : Bool) → is_any c ≡ b → copy_bit_due (cond b (Some c) None) ≡ c.copy_bit
bit_of_any c true e = refl
bit_of_any c false e = sym (no_bit (not (int_eq c.flaw (pos 0))) c.copy_bit e)

pub flaw_found : (d : DrawFields) (reach i : ℕ) → i < reach → flaw_due (due_at (entry_of d reach) i) ≡ flaw d.flaw_rate (word d.seed d.quantum) i
flaw_found d reach i h =
    let c : Chance = chance_of d i in
    ap flaw_due (found d i 0 reach (omega arith) (omega (arith, h))) ∙ flaw_of_any c (is_any c) refl

pub copy_bit_found : (d : DrawFields) (reach i : ℕ) → i < reach → copy_bit_due (due_at (entry_of d reach) i) ≡ copy_bit d.copy_rate (word d.seed d.quantum) i
copy_bit_found d reach i h =
    let c : Chance = chance_of d i in
    ap copy_bit_due (found d i 0 reach (omega arith) (omega (arith, h))) ∙ bit_of_any c (is_any c) refl

-- one instruction more
cond_append : (b : Bool) (xs : List Chance) (x : Chance) → cond b (xs ++ x ∷ []) xs ≡ xs ++ cond b (x ∷ []) []
cond_append true xs x = refl
cond_append false xs x = sym (append-nil xs)

pub listed_more : (d : DrawFields) (i : ℕ) (xs : List Chance) (x : Chance) → xs ≡ filter is_any (map (chance_of d) (range_with_len 0 i)) → x ≡ chance_of d i
    → cond (is_any x) (xs ++ x ∷ []) xs ≡ filter is_any (map (chance_of d) (range_with_len 0 (i + 1)))
listed_more d i xs x old is =
    cond_append (is_any x) xs x
    ∙ ap (λ (ys : List Chance). ys ++ cond (is_any x) (x ∷ []) []) old
    ∙ ap (λ (y : Chance). filter is_any (map (chance_of d) (range_with_len 0 i)) ++ cond (is_any y) (y ∷ []) []) is
    ∙ sym (filter_of_map_range_with_len_more is_any (chance_of d) 0 i i (omega arith))
