-- Words of letters and their ranks: each way back.
use Rattle.std.proofs.Common.{◌≡◌, ℕ, zero, suc, ◌+◌, ◌-◌, ◌*◌, ◌/◌, ◌%◌, ◌^◌, ◌<◌, ◌≤◌, true, List, [], ◌∷◌, refl, sym, ◌∙◌, ap, arith, zero-add, inl, inr}
use Rattle.std.proofs.Common.{length, lit<}
use Rattle.std.proofs.Math.Nat.{div-lt_iff_lt-mul, mod-eq_of_lt, mul-add-mod_self_right, mul-le-mul_right, pow-suc, pow-succ', mod-lt, one-le-pow}
use Rattle.std.proofs.Math.Nat.{pow-le-pow_right, pow-zero}
use Rattle.std.proofs.lemmas.Bool.{and_parts, cases_lt, cases_order}
use Rattle.std.proofs.lemmas.Bool.Decides.{nat_tests}
use Rattle.std.proofs.lemmas.Nat.{div-add-mod', div-mul-add}
use Rattle.std.specs.Char.{is_ascii_lowercase}
use Rattle.std.specs.List.{list_all}
use Rattle.std.specs.Prelude.{nat_le, nat_lt, ◌⊎◌}
use Rattle.genotyper.specs.Names.{are_letters, is_word, letters_of, rank_of, shorter_words, value_in, word, word_from}
use Rattle.genotyper.proofs.Words.{shorter_words-closed, word_from-here, word_from-later}
use Rattle.tierra_model.specs.declared.limits.TheConstants.{COUNT_END}

-- ---- words of n letters

pub length-word : (n rank : ℕ) → length (word n rank) ≡ n
length-word zero rank = refl
length-word (suc n) rank = ap (λ (k : ℕ). suc k) (length-word n (rank % 26 ^ n))

power_pos : (n : ℕ) → 0 < 26 ^ n
power_pos n = omega (arith, one-le-pow n 26 (lit< tt))

first_letter : (n rank : ℕ) → rank < 26 ^ suc n → rank / 26 ^ n < 26
first_letter n rank h = (div-lt_iff_lt-mul (power_pos n)).1 (rw (← pow-succ' 26 n) h)

letter : (q : ℕ) → 97 + q - 97 ≡ q
letter q = omega arith

value_in-word : (n rank : ℕ) → rank < 26 ^ n → value_in 26 97 (word n rank) ≡ rank
value_in-word zero rank h = omega (arith, pow-zero 26)
value_in-word (suc n) rank h =
    rw (length-word n (rank % 26 ^ n), value_in-word n (rank % 26 ^ n) (mod-lt rank (power_pos n)))
    (rw (letter (rank / 26 ^ n)) (div-add-mod' rank (26 ^ n)))

lowercase-word : (n rank : ℕ) → rank < 26 ^ n → list_all is_ascii_lowercase (word n rank) ≡ true
lowercase-word zero rank h = refl
lowercase-word (suc n) rank h =
    let few = first_letter n rank h in
    let letter : is_ascii_lowercase (97 + rank / 26 ^ n) ≡ true = grind (arith, nat_tests) in
    rw (letter, lowercase-word n (rank % 26 ^ n) (mod-lt rank (power_pos n)))

letter_range : (x : ℕ) → is_ascii_lowercase x ≡ true → (97 ≤ x) × (x < 123)
letter_range x h =
    let parts = and_parts (nat_le 97 x) (nat_le x 122) h in
    let low : 97 ≤ x = grind (arith, nat_tests) in
    let high : x ≤ 122 = grind (arith, nat_tests) in
    (low, omega arith)

value_lt : (xs : List ℕ) → list_all is_ascii_lowercase xs ≡ true → value_in 26 97 xs < 26 ^ length xs
value_lt [] h = omega (arith, pow-zero 26)
value_lt (x ∷ xs) h =
    let parts = and_parts (is_ascii_lowercase x) (list_all is_ascii_lowercase xs) h in
    let range = letter_range x parts.0 in
    let few : x - 97 ≤ 25 = omega arith in
    let most : (x - 97) * 26 ^ length xs ≤ 25 * 26 ^ length xs = mul-le-mul_right (26 ^ length xs) few in
    rw (pow-suc 26 (length xs)) (omega (arith, value_lt xs parts.1))

word-value_in : (xs : List ℕ) → list_all is_ascii_lowercase xs ≡ true → word (length xs) (value_in 26 97 xs) ≡ xs
word-value_in [] h = refl
word-value_in (x ∷ xs) h =
    let parts = and_parts (is_ascii_lowercase x) (list_all is_ascii_lowercase xs) h in
    let range = letter_range x parts.0 in
    let rest = value_lt xs parts.1 in
    let back : 97 + (x - 97) ≡ x = omega arith in
    rw (
      div-mul-add (x - 97) (26 ^ length xs) (value_in 26 97 xs) rest,
      mul-add-mod_self_right (x - 97) (26 ^ length xs) (value_in 26 97 xs),
      mod-eq_of_lt rest,
      word-value_in xs parts.1,
      back,
    )

-- ---- words of three letters or more

shorter_words-rises : (m n : ℕ) → m < n → shorter_words m + 26 ^ (m + 3) ≤ shorter_words n
shorter_words-rises m zero h = absurd (omega arith)
shorter_words-rises m (suc n) h = go (cases_order m n) (λ k. shorter_words-rises m n k)
  where
    go : (m ≡ n) ⊎ ((m < n) ⊎ (n < m)) → (m < n → shorter_words m + 26 ^ (m + 3) ≤ shorter_words n)
        → shorter_words m + 26 ^ (m + 3) ≤ shorter_words n + 26 ^ (n + 3)
    go (inl same) ih = omega (arith, ap shorter_words same, ap (λ k. 26 ^ (k + 3)) same)
    go (inr (inl less)) ih = omega (arith, ih less)
    go (inr (inr more)) ih = absurd (omega arith)

-- the length of the word of a rank, and its rank among the words of that length
pub record Spells (letters : List ℕ) (rank : ℕ) : Type 0 where
  pub more : ℕ
  pub place : ℕ
  pub below : place < 26 ^ (more + 3)
  pub rank_is : shorter_words more + place ≡ rank
  pub letters_are : letters ≡ word (more + 3) place

word_from-spells : (lengths k rank : ℕ) → rank ≤ lengths → Spells (word_from lengths (k + 3) rank) (shorter_words k + rank)
word_from-spells zero k rank h =
    record { more = k; place = rank; below = omega (arith, power_pos (k + 3)); rank_is = refl; letters_are = refl }
word_from-spells (suc lengths) k rank h = go (cases_lt rank (26 ^ (k + 3))) (λ r less. word_from-spells lengths (suc k) r less)
  where
    go : (rank < 26 ^ (k + 3)) ⊎ (26 ^ (k + 3) ≤ rank)
        → ((r : ℕ) → r ≤ lengths → Spells (word_from lengths (suc k + 3) r) (shorter_words (suc k) + r))
        → Spells (word_from (suc lengths) (k + 3) rank) (shorter_words k + rank)
    go (inl less) ih =
        record { more = k; place = rank; below = less; rank_is = refl; letters_are = word_from-here (suc lengths) (k + 3) rank less }
    go (inr more) ih =
        let s = ih (rank - 26 ^ (k + 3)) (omega (arith, power_pos (k + 3))) in
        let longer : k + 3 + 1 ≡ suc k + 3 = omega arith in
        record {
          more = s.more;
          place = s.place;
          below = s.below;
          rank_is = s.rank_is ∙ omega arith;
          letters_are = word_from-later lengths (k + 3) rank more ∙ ap (λ n. word_from lengths n (rank - 26 ^ (k + 3))) longer ∙ s.letters_are;
        }

letters_of-spells : (rank : ℕ) → Spells (letters_of rank) rank
letters_of-spells rank =
    let s = word_from-spells rank 0 rank (omega arith) in
    record { more = s.more; place = s.place; below = s.below; rank_is = s.rank_is ∙ zero-add rank; letters_are = s.letters_are }

-- no other word has the rank
spells_once : (xs ys : List ℕ) (rank : ℕ) → Spells xs rank → Spells ys rank → xs ≡ ys
spells_once xs ys rank s t = go (cases_order s.more t.more)
  where
    go : (s.more ≡ t.more) ⊎ ((s.more < t.more) ⊎ (t.more < s.more)) → xs ≡ ys
    go (inl same) =
        let place : s.place ≡ t.place = omega (arith, s.rank_is, t.rank_is, ap shorter_words same) in
        s.letters_are ∙ ap (λ n. word (n + 3) s.place) same ∙ ap (word (t.more + 3)) place ∙ sym t.letters_are
    go (inr (inl less)) = absurd (omega (arith, s.rank_is, t.rank_is, s.below, shorter_words-rises s.more t.more less))
    go (inr (inr more)) = absurd (omega (arith, s.rank_is, t.rank_is, t.below, shorter_words-rises t.more s.more more))

rank_of-word : (more place : ℕ) → place < 26 ^ (more + 3) → rank_of (word (more + 3) place) ≡ shorter_words more + place
rank_of-word more place h =
    let less : more + 3 - 3 ≡ more = omega arith in
    rw (length-word (more + 3) place, value_in-word (more + 3) place h, less)

is_word-word : (more place : ℕ) → place < 26 ^ (more + 3) → more ≤ 10 → is_word (word (more + 3) place) ≡ true
is_word-word more place h k =
    let low : nat_le 3 (more + 3) ≡ true = grind (arith, nat_tests) in
    let high : nat_le (more + 3) 13 ≡ true = grind (arith, nat_tests) in
    rw (length-word (more + 3) place, low, high, lowercase-word (more + 3) place h)

-- thirteen letters at most for a rank below COUNT_END
more_is_few : (more rank : ℕ) → shorter_words more ≤ rank → rank < COUNT_END → more ≤ 10
more_is_few more rank h k = go (cases_lt 10 more)
  where
    go : (10 < more) ⊎ (more ≤ 10) → more ≤ 10
    go (inl many) =
        let long : 14 ≤ more + 3 = omega arith in
        let great : 26 ^ 14 ≤ 26 ^ (more + 3) = pow-le-pow_right (lit< tt) long in
        absurd (omega (arith, shorter_words-closed more))
    go (inr few) = few

pub rank_of-letters_of : (rank : ℕ) → rank_of (letters_of rank) ≡ rank
rank_of-letters_of rank =
    let s = letters_of-spells rank in
    ap rank_of s.letters_are ∙ rank_of-word s.more s.place s.below ∙ s.rank_is

pub are_letters-letters_of : (rank : ℕ) → rank < COUNT_END → are_letters (letters_of rank) ≡ true
are_letters-letters_of rank h =
    let s = letters_of-spells rank in
    let few = more_is_few s.more rank (omega (arith, s.rank_is)) h in
    let small : nat_lt rank COUNT_END ≡ true = grind (arith, nat_tests) in
    let spelled : is_word (letters_of rank) ≡ true = ap is_word s.letters_are ∙ is_word-word s.more s.place s.below few in
    rw (spelled, rank_of-letters_of rank, small)

pub letters_of-rank_of : (xs : List ℕ) → is_word xs ≡ true → letters_of (rank_of xs) ≡ xs
letters_of-rank_of xs h =
    let long : 3 ≤ length xs = grind (arith, nat_tests) in
    let size : length xs - 3 + 3 ≡ length xs = omega arith in
    let lowercase : list_all is_ascii_lowercase xs ≡ true = (and_parts _ _ h).1 in
    spells_once (letters_of (rank_of xs)) xs (rank_of xs) (letters_of-spells (rank_of xs))
    (record {
      more = length xs - 3;
      place = value_in 26 97 xs;
      below = rw size (value_lt xs lowercase);
      rank_is = refl;
      letters_are = sym (ap (λ n. word n (value_in 26 97 xs)) size ∙ word-value_in xs lowercase);
    })
