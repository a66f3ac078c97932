-- Words of letters.
use Rattle.std.proofs.Common.{◌≡◌, inl, inr, lit<, ℕ, zero, suc, ◌+◌, ◌-◌, ◌*◌, ◌/◌, ◌%◌, ◌^◌, ◌<◌, ◌≤◌, true, false, List, [], ◌∷◌, ◌++◌, refl, sym, ◌∙◌, ap}
use Rattle.std.proofs.Common.{arith, add-one, append_assoc}
use Rattle.std.proofs.Math.Nat.{one-le-pow, pow-le-pow_right}
use Rattle.std.proofs.lemmas.Bool.{cases_lt}
use Rattle.std.proofs.lemmas.Bool.Decides.{nat_tests}
use Rattle.std.proofs.lemmas.Grind.{pow_more}
use Rattle.std.specs.Prelude.{nat_lt, ◌⊎◌}
use Rattle.genotyper.specs.Names.{shorter_words, word, word_from}

-- 26 times as many words of one letter more
pub shorter_words-closed : (n : ℕ) → 25 * shorter_words n + 17576 ≡ 26 ^ (n + 3)
shorter_words-closed zero = refl
shorter_words-closed (suc n) =
    let longer : suc n + 3 ≡ (n + 3) + 1 = omega arith in
    rw (longer, pow_more 26 (n + 3)) (omega (arith, shorter_words-closed n))

pub shorter_words-next : (n : ℕ) → shorter_words (n + 1) ≡ shorter_words n + 26 ^ (n + 3)
shorter_words-next n = rw add-one

pub words-next : (n : ℕ) → 26 ^ (n + 1 + 3) ≡ 26 ^ (n + 3) * 26
words-next n =
    let longer : n + 1 + 3 ≡ (n + 3) + 1 = omega arith in
    rw (longer, pow_more 26 (n + 3))

pub words_fit : (n : ℕ) → n ≤ 10 → 26 ^ (n + 3) ≤ 26 ^ 13
words_fit n h =
    let few : n + 3 ≤ 13 = omega arith in
    pow-le-pow_right (lit< tt) few

-- the rank is one of the n-letter words
pub word_from-here : (lengths n rank : ℕ) → rank < 26 ^ n → word_from lengths n rank ≡ word n rank
word_from-here zero n rank h = refl
word_from-here (suc lengths) n rank h =
    let here : nat_lt rank (26 ^ n) ≡ true = grind (arith, nat_tests) in
    rw (here, word_from)

pub word_from-later : (lengths n rank : ℕ) → 26 ^ n ≤ rank → word_from (suc lengths) n rank ≡ word_from lengths (n + 1) (rank - 26 ^ n)
word_from-later lengths n rank h =
    let later : nat_lt rank (26 ^ n) ≡ false = grind (arith, nat_tests) in
    rw (later, word_from)

-- no more than 13 letters have so few words
pub few_letters : (n : ℕ) → 26 ^ n < 2 ^ 64 → n ≤ 13
few_letters n h = go (cases_lt 13 n)
  where
    go : (13 < n) ⊎ (n ≤ 13) → n ≤ 13
    go (inl more) =
        let at_least : 14 ≤ n = omega arith in
        let great : 26 ^ 14 ≤ 26 ^ n = pow-le-pow_right (lit< tt) at_least in
        absurd (omega arith)
    go (inr few) = few

-- ---- what is written so far, with what is left to write

pub word-push : (n left unit : ℕ) (old new all : List ℕ) → 0 < n → old ++ word n left ≡ all → unit ≡ 26 ^ (n - 1)
    → new ≡ old ++ (97 + left / unit) ∷ [] → new ++ word (n - 1) (left % unit) ≡ all
word-push zero left unit old new all h is u e = absurd (omega arith)
word-push (suc n) left unit old new all h is u e =
    let less : suc n - 1 ≡ n = omega arith in
    let unit_is : unit ≡ 26 ^ n = u ∙ ap (λ k. 26 ^ k) less in
    rw (less, e, append_assoc, unit_is) is

pub word_from-step : (lengths n left words : ℕ) (all : List ℕ) → words ≡ 26 ^ n → words ≤ left → left ≤ lengths → word_from lengths n left ≡ all
    → (m : ℕ) × (left - words ≤ m) × (word_from m (n + 1) (left - words) ≡ all)
word_from-step zero n left words all e h k is =
    let some : 1 ≤ 26 ^ n = one-le-pow n 26 (lit< tt) in
    absurd (omega arith)
word_from-step (suc m) n left words all e h k is =
    let some : 1 ≤ 26 ^ n = one-le-pow n 26 (lit< tt) in
    (m, omega arith, ap (λ w. word_from m (n + 1) (left - w)) e ∙ sym (word_from-later m n left (omega arith)) ∙ is)
