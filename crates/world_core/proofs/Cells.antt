-- Cells copied out of a soup, and a code put into it, one cell after another.
use Rattle.std.proofs.Common.{◌≡◌, ℕ, suc, ◌+◌, ◌-◌, ◌<◌, ◌≤◌, List, [], ◌∷◌, ◌++◌, refl, sym, ◌∙◌, ap, arith, append_assoc, drop, drop-cons, get_or, length}
use Rattle.std.proofs.Common.{length-append, set, take}
use Rattle.std.proofs.Math.Seq.{set-append_seam}
use Rattle.std.proofs.lemmas.List.{get_or-drop, length-drop, length-take, take-append-drop, take_more}
use Rattle.std.specs.Prelude.{slice_range}
use Rattle.tierra_model.specs.Serial.{overwrite}

-- one cell more is copied
pub copied-more : (xs : List ℕ) (from at : ℕ) → from ≤ at → at < length xs → slice_range xs from (at + 1) ≡ slice_range xs from at ++ get_or xs at 0 ∷ []
copied-more xs from at l h =
    let n : ℕ = at - from in
    let long : n < length (drop from xs) = omega (arith, length-drop from xs) in
    let next : at + 1 - from ≡ n + 1 = omega arith in
    let here : from + n ≡ at = omega arith in
    ap (λ (k : ℕ). take k (drop from xs)) next ∙ take_more (drop from xs) n 0 long
    ∙ ap (λ (x : ℕ). take n (drop from xs) ++ x ∷ []) (get_or-drop from xs n 0 ∙ ap (λ (k : ℕ). get_or xs k 0) here)

pub copied-none : (xs : List ℕ) (from : ℕ) → slice_range xs from from ≡ []
copied-none xs from = ap (λ (k : ℕ). take k (drop from xs)) (none from)
  where
    none : (k : ℕ) → k - k ≡ 0
    none k = omega arith

pub length-overwrite : (xs : List ℕ) (at : ℕ) (ys : List ℕ) → at + length ys ≤ length xs → length (overwrite xs at ys) ≡ length xs
length-overwrite xs at ys h =
    omega (
      arith,
      length-append (take at xs ++ ys) (drop (at + length ys) xs),
      length-append (take at xs) ys,
      length-take at xs,
      length-drop (at + length ys)
          xs,
    )

-- nothing is put in
pub overwrite-none : (xs : List ℕ) (at : ℕ) → overwrite xs at [] ≡ xs
overwrite-none xs at =
    ap (λ (l : List ℕ). l ++ drop (at + 0) xs) (append_nil (take at xs)) ∙ ap (λ (k : ℕ). take at xs ++ drop k xs) (let e : at + 0 ≡ at = omega arith in
    e) ∙ take-append-drop at xs
  where
    append_nil : (l : List ℕ) → l ++ [] ≡ l
    append_nil [] = refl
    append_nil (x ∷ xs) = ap (λ (l : List ℕ). x ∷ l) (append_nil xs)

-- one cell more is put in
pub overwrite-more : (xs : List ℕ) (at : ℕ) (ys : List ℕ) (i : ℕ) → i < length ys → at + length ys ≤ length xs
    → set (overwrite xs at (take i ys)) (at + i) (get_or ys i 0) ≡ overwrite xs at (take (i + 1) ys)
overwrite-more xs at ys i h l =
    let done : List ℕ = take at xs ++ take i ys in
    let y : ℕ = get_or ys i 0 in
    let short : length (take i ys) ≡ i = omega (arith, length-take i ys) in
    let seam : length done ≡ at + i = omega (arith, length-append (take at xs) (take i ys), length-take at xs) in
    let longer : length (take (i + 1) ys) ≡ i + 1 = omega (arith, length-take (i + 1) ys) in
    let rest : drop (at + i) xs ≡ get_or xs (at + i) 0 ∷ drop (suc (at + i)) xs = drop-cons xs (at + i) 0 (omega arith) in
    ap (λ (k : ℕ). set (done ++ drop (at + k) xs) (at + i) y) short
    ∙ ap (λ (r : List ℕ). set (done ++ r) (at + i) y) rest
    ∙ ap (λ (k : ℕ). set (done ++ get_or xs (at + i) 0 ∷ drop (suc (at + i)) xs) k y) (sym seam)
    ∙ set-append_seam done (get_or xs (at + i) 0) (drop (suc (at + i)) xs) y
    ∙ sym (append_assoc (done) (y ∷ []) (drop (suc (at + i)) xs))
    ∙ ap (λ (d : List ℕ). d ++ drop (suc (at + i)) xs) (append_assoc (take at xs) (take i ys) (y ∷ [])
    ∙ ap (λ (t : List ℕ). take at xs ++ t) (sym (take_more ys i 0 h)))
    ∙ ap (λ (k : ℕ). take at xs ++ take (i + 1) ys ++ drop k xs) (let e : suc (at + i) ≡ at + (i + 1) = omega arith in e)
    ∙ ap (λ (k : ℕ). take at xs ++ take (i + 1) ys ++ drop (at + k) xs) (sym longer)
