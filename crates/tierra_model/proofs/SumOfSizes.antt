-- Blocks that share no cell and lie in a soup have no more cells together than the soup.
use Rattle.std.proofs.Common.{◌≡◌, ℕ, zero, suc, ◌+◌, ◌<◌, ◌≤◌, Bool, true, false, List, [], ◌∷◌, refl, arith, length}
use Rattle.std.specs.Prelude.{All, nat_lt}
use Rattle.std.proofs.lemmas.Bool.Decides.{nat_tests}
use Rattle.std.proofs.lemmas.List.Elements.{All-head, All-tail}
use Rattle.tierra_model.specs.declared.setups.Inoculum.{Inoculum}
use Rattle.tierra_model.specs.Counting.{sum_of, one_if}
use Rattle.tierra_model.specs.Blocks.{is_in}
use Rattle.tierra_model.specs.Setups.{block_of}

-- the sum of f over the k numbers from p on
sum_from : (ℕ → ℕ) → ℕ → ℕ → ℕ
sum_from f p zero = 0
sum_from f p (suc k) = f p + sum_from f (p + 1) k

sum_from-none : (p k : ℕ) → sum_from (λ q. 0) p k ≡ 0
unfolding sum_from
sum_from-none p zero = refl
sum_from-none p (suc k) = omega (arith, sum_from-none (p + 1) k)

sum_from-plus : (f g : ℕ → ℕ) (p k : ℕ) → sum_from (λ q. f q + g q) p k ≡ sum_from f p k + sum_from g p k
unfolding sum_from
sum_from-plus f g p zero = omega arith
sum_from-plus f g p (suc k) = omega (arith, sum_from-plus f g (p + 1) k)

sum_from-sum_of : {X : Type 0} (g : X → ℕ → ℕ) (xs : List X) (p k : ℕ) → sum_from (λ q. sum_of (λ x. g x q) xs) p k ≡ sum_of (λ x. sum_from (g x) p k) xs
sum_from-sum_of g [] p k = sum_from-none p k
sum_from-sum_of g (x ∷ xs) p k = omega (arith, sum_from-plus (g x) (λ q. sum_of (λ y. g y q) xs) p k, sum_from-sum_of g xs p k)

sum_from-most : (f : ℕ → ℕ) (p k : ℕ) → ((q : ℕ) → f q ≤ 1) → sum_from f p k ≤ k
unfolding sum_from
sum_from-most f p zero h = omega arith
sum_from-most f p (suc k) h = omega (arith, h p, sum_from-most f (p + 1) k h)

sum_from-least : (f : ℕ → ℕ) (p k at size : ℕ) → ((q : ℕ) → at ≤ q → q < at + size → 1 ≤ f q) → p ≤ at → at + size ≤ p + k → size ≤ sum_from f p k
unfolding sum_from
sum_from-least f p zero at size h low high = omega arith
sum_from-least f p (suc k) at zero h low high = omega arith
sum_from-least f p (suc k) at (suc size) h low high =
    go (nat_lt p at) refl (sum_from-least f (p + 1) k at (suc size) h) (sum_from-least f (p + 1) k (at + 1) size (λ q l m. h q (omega arith) (omega arith)))
  where
    go : (b : Bool) → nat_lt p at ≡ b → (p + 1 ≤ at → at + suc size ≤ p + 1 + k → suc size ≤ sum_from f (p + 1) k)
        → (p + 1 ≤ at + 1 → at + 1 + size ≤ p + 1 + k → size ≤ sum_from f (p + 1) k) → suc size ≤ f p + sum_from f (p + 1) k
    go true e ih ih' =
        let before : p < at = grind (arith, nat_tests) in
        let r = ih (omega arith) (omega arith) in
        omega arith
    go false e ih ih' =
        let here : at ≤ p = grind (arith, nat_tests) in
        let one : 1 ≤ f p = h p here (omega arith) in
        let r = ih' (omega arith) (omega arith) in
        omega arith

in_block : (at size q : ℕ) → at ≤ q → q < at + size → 1 ≤ one_if (is_in (record { at = at; size = size }) q)
in_block at size q h k = grind (arith, nat_tests)

abbrev pub Lies : ℕ → Inoculum → Type 0
Lies n c = c.at + length c.code ≤ n

each_size : (n : ℕ) (cs : List Inoculum) → All (Lies n) cs
    → sum_of (λ c. length c.code) cs ≤ sum_of (λ c. sum_from (λ p. one_if (is_in (block_of c) p)) 0 n) cs
each_size n [] h = omega arith
each_size n (c ∷ cs) h =
    let lies : c.at + length c.code ≤ n = All-head (Lies n) c cs h in
    let one = sum_from-least (λ p. one_if (is_in (block_of c) p)) 0 n c.at (length c.code) (λ q l m. in_block c.at (length c.code) q l m) (omega arith)
    (omega arith) in
    omega (arith, one, each_size n cs (All-tail (Lies n) c cs h))

pub sizes_fit : (n : ℕ) (cs : List Inoculum) → ((p : ℕ) → sum_of (λ c. one_if (is_in (block_of c) p)) cs ≤ 1) → All (Lies n) cs
    → sum_of (λ c. length c.code) cs ≤ n
sizes_fit n cs apart h =
    omega (
      arith,
      each_size n cs h,
      sum_from-sum_of (λ (c : Inoculum) p. one_if (is_in (block_of c) p)) cs 0 n,
      sum_from-most (λ p. sum_of (λ c. one_if (is_in (block_of c) p)) cs) 0 n apart,
    )
