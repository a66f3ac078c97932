-- One more text after those of the places before it.
use Rattle.std.proofs.Common.{◌≡◌, ◌∙◌, sym, ap, ℕ, zero, suc, ◌+◌, List, ◌++◌, arith}
use Rattle.std.proofs.lemmas.List.{append_assoc, append-nil}
use Rattle.std.specs.List.{flat_map, range_with_len}

texts-suc : (f : ℕ → List ℕ) (a n j : ℕ) → a + n ≡ j
    → flat_map f (range_with_len a (suc n)) ≡ flat_map f (range_with_len a n) ++ f j
texts-suc f a zero j h = let same : a ≡ j = omega arith in append-nil (f a) ∙ ap f same
texts-suc f a (suc n) j h =
    let rest : List ℕ = flat_map f (range_with_len (a + 1) n) in
    let next : a + 1 + n ≡ j = omega arith in
    ap (λ xs. f a ++ xs) (texts-suc f (a + 1) n j next) ∙ sym (append_assoc (f a) rest (f j))

-- the texts of the places below n + 1
pub texts-more : (f : ℕ → List ℕ) (n : ℕ) → flat_map f (range_with_len 0 (n + 1)) ≡ flat_map f (range_with_len 0 n) ++ f n
texts-more f n =
    let more : n + 1 ≡ suc n = omega arith in
    let last : 0 + n ≡ n = omega arith in
    ap (λ k. flat_map f (range_with_len 0 k)) more ∙ texts-suc f 0 n n last
