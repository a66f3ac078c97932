-- Creatures that lie apart, and one more.
use Rattle.std.proofs.Common.{◌≡◌, ◌∙◌, ℕ, zero, suc, ◌+◌, ◌<◌, ◌≤◌, Bool, true, false, cond, not, List, [], ◌∷◌, ◌++◌, Some, None, ap, get_or, length, map}
use Rattle.std.proofs.Common.{refl, arith}
use Rattle.std.specs.Prelude.{All, nat_lt, position}
use Rattle.std.specs.List.{position_or_len}
use Rattle.std.proofs.lemmas.Bool.Decides.{nat_tests}
use Rattle.std.proofs.lemmas.List.{length-map}
use Rattle.std.proofs.lemmas.List.Elements.{All-head, All-push, All-tail}
use Rattle.std.proofs.lemmas.List.Sums.{fails_before_first}
use Rattle.tierra_model.specs.declared.setups.Inoculum.{Inoculum}
use Rattle.tierra_model.specs.Blocks.{is_in}
use Rattle.tierra_model.specs.Counting.{one_if, sum_of}
use Rattle.tierra_model.specs.Ranges.{IsCode}
use Rattle.tierra_model.specs.Setups.{block_of}
use Rattle.tierra_model.proofs.Owners.{sum_of-append}
use Rattle.tierra_model.proofs.SumOfSizes.{sizes_fit}
use Rattle.soup_file.specs.Creatures.{LieApart, do_share, share_a_cell}

-- how many there are
few : (cs : List Inoculum) → All (λ c. IsCode c.code) cs → length cs ≤ sum_of (λ c. length c.code) cs
few [] h = omega arith
few (c ∷ cs) h = omega (arith, (All-head (λ c. IsCode c.code) c cs h).0, few cs (All-tail (λ c. IsCode c.code) c cs h))

pub apart-few : (n : ℕ) (cs : List Inoculum) → LieApart n cs → length cs ≤ n
apart-few n cs h = omega (arith, few cs h.written, sizes_fit n cs h.apart h.placed)

-- a cell of one that shares none with the other
no_cell : (d c : Inoculum) (p : ℕ) → share_a_cell d c ≡ false → one_if (is_in (block_of d) p) + one_if (is_in (block_of c) p) ≤ 1
no_cell d c p h = grind (arith, nat_tests)

none_shares : (cs : List Inoculum) (c : Inoculum) (p : ℕ) → ((k : ℕ) → k < length cs → share_a_cell (get_or cs k c) c ≡ false)
    → is_in (block_of c) p ≡ true → sum_of (λ d. one_if (is_in (block_of d) p)) cs ≡ 0
none_shares [] c p h e = refl
none_shares (d ∷ cs) c p h e =
    let first = no_cell d c p (h zero (omega arith)) in
    let own : one_if (is_in (block_of c) p) ≡ 1 = ap one_if e in
    omega (arith, none_shares cs c p (λ k l. h (suc k) (omega arith)) e)

alone : (cs : List Inoculum) (c : Inoculum) → position (λ d. share_a_cell d c) cs ≡ None → (k : ℕ) → k < length cs → share_a_cell (get_or cs k c) c ≡ false
alone cs c none k l = fails_before_first (λ d. share_a_cell d c) cs k c (all (position_or_len (λ d. share_a_cell d c) cs) none)
  where
    all : (n : ℕ) → cond (nat_lt n (length cs)) (Some n) None ≡ None → k < n
    all n e = omega (arith, past n (length cs) e)
      where
        past : (n m : ℕ) → cond (nat_lt n m) (Some n) None ≡ None → m ≤ n
        past n m e = grind (arith, nat_tests)

apart-at : (cs : List Inoculum) (c : Inoculum) (p : ℕ) (b : Bool) → is_in (block_of c) p ≡ b → position (λ d. share_a_cell d c) cs ≡ None
    → sum_of (λ d. one_if (is_in (block_of d) p)) cs ≤ 1 → sum_of (λ d. one_if (is_in (block_of d) p)) (cs ++ c ∷ []) ≤ 1
apart-at cs c p true e none h =
    let own : one_if (is_in (block_of c) p) ≡ 1 = ap one_if e in
    omega (arith, sum_of-append (λ d. one_if (is_in (block_of d) p)) cs (c ∷ []), none_shares cs c p (alone cs c none) e)
apart-at cs c p false e none h =
    let own : one_if (is_in (block_of c) p) ≡ 0 = ap one_if e in
    omega (arith, sum_of-append (λ d. one_if (is_in (block_of d) p)) cs (c ∷ []))

pub apart-push : (n : ℕ) (cs : List Inoculum) (c : Inoculum) → LieApart n cs → IsCode c.code → c.at + length c.code ≤ n
    → position (λ d. share_a_cell d c) cs ≡ None → LieApart n (cs ++ c ∷ [])
apart-push n cs c h code placed none =
    record {
      written = All-push (λ c. IsCode c.code) cs c h.written code;
      placed = All-push (λ c. c.at + length c.code ≤ n) cs c h.placed placed;
      apart = λ p. apart-at cs c p (is_in (block_of c) p) refl none (h.apart p);
    }

-- creatures that are there
first_sharing : (cs : List Inoculum) (c : Inoculum) → position_or_len (λ d. do_share d (Some c)) (map Some cs) ≡ position_or_len (λ d. share_a_cell d c) cs
first_sharing [] c = refl
first_sharing (d ∷ cs) c = ap (λ n. cond (not (share_a_cell d c)) (1 + n) 0) (first_sharing cs c)

pub sharing : (cs : List Inoculum) (c : Inoculum) → position (λ d. do_share d (Some c)) (map Some cs) ≡ position (λ d. share_a_cell d c) cs
sharing cs c =
    ap (λ n. cond (nat_lt n (length (map Some cs))) (Some n) None) (first_sharing cs c)
    ∙ ap (λ m. cond (nat_lt (position_or_len (λ d. share_a_cell d c) cs) m) (Some (position_or_len (λ d. share_a_cell d c) cs)) None) (length-map cs Some)
