-- The genebank of a run, as it grows.
use Rattle.std.proofs.Common.{inl, inr, ◌≡◌, ◌∙◌, refl, sym, ap, arith, ℕ, zero, suc, ◌+◌, ◌-◌, ◌≤◌, List, [], ◌++◌, length, take, drop, append-nil}
use Rattle.std.proofs.Common.{append_assoc, length-append, length-take, length-drop}
use Rattle.std.proofs.lemmas.Bool.{cases_lt}
use Rattle.std.proofs.lemmas.List.{drop-append-le, drop_all, take-append-le, take_all}
use Rattle.tierra_model.specs.Genebank.{bank, group_if_any, saved_in}
use Rattle.tierra_model.specs.Groups.{GroupFields}
use Rattle.tierra_model.specs.Serial.{serial}
use Rattle.tierra_model.specs.Setups.{SetupFields}
use Rattle.crew.specs.Hand.{AreNext, run_bank}

bank-suc : (setup : SetupFields) (q : ℕ) → bank setup (suc q) ≡ bank setup q ++ group_if_any q (saved_in q (serial setup q))
unfolding bank
bank-suc setup q = refl

-- a genebank goes on as it began
bank-more : (setup : SetupFields) (a k : ℕ) → (more : List GroupFields) × (bank setup (a + k) ≡ bank setup a ++ more)
bank-more setup a zero =
    let same : a + zero ≡ a = omega arith in
    ([], ap (bank setup) same ∙ sym (append-nil (bank setup a)))
bank-more setup a (suc k) =
    let before = bank-more setup a k in
    let group : List GroupFields = group_if_any (a + k) (saved_in (a + k) (serial setup (a + k))) in
    let next : a + suc k ≡ suc (a + k) = omega arith in
    (before.0 ++ group, ap (bank setup) next ∙ bank-suc setup (a + k) ∙ ap (λ l. l ++ group) before.1 ∙ append_assoc (bank setup a) before.0 group)

pub run_bank-more : (setup : SetupFields) (c n : ℕ) → c ≤ n → (more : List GroupFields) × (run_bank setup n ≡ run_bank setup c ++ more)
run_bank-more setup c n h =
    let more = bank-more setup (c + 1) (n - c) in
    let sum : n + 1 ≡ (c + 1) + (n - c) = omega arith in
    (more.0, ap (bank setup) sum ∙ more.1)

drop-front : (xs ys : List GroupFields) (k : ℕ) → take (length (drop k xs)) (drop k (xs ++ ys)) ≡ drop k xs
drop-front xs ys k = elim (cases_lt (length xs) k) [
  | inl less ↦
      let none : drop k xs ≡ [] = drop_all k xs (omega arith) in
      ap (λ (l : List GroupFields). take (length l) (drop k (xs ++ ys))) none ∙ sym none
  | inr more ↦
      ap (take (length (drop k xs))) (drop-append-le k xs ys more)
      ∙ take-append-le (length (drop k xs)) (drop k xs) ys (omega arith)
      ∙ take_all (length (drop k xs)) (drop k xs) (omega arith)
]

-- those from place k on of an earlier quantum come next
pub are_next : (setup : SetupFields) (c n k : ℕ) (groups : List GroupFields) → c ≤ n → groups ≡ drop k (run_bank setup c) → AreNext setup n k groups
are_next setup c n k groups h is =
    let more = run_bank-more setup c n h in
    let front = drop-front (run_bank setup c) more.0 k in
    is ∙ sym front ∙ ap (λ (l : List GroupFields). take (length l) (drop k (run_bank setup c ++ more.0))) (sym is)
    ∙ ap (λ (l : List GroupFields). take (length groups) (drop k l)) (sym more.1)

-- they are no more than there are
pub next-within : (setup : SetupFields) (n k : ℕ) (groups : List GroupFields) → AreNext setup n k groups → k ≤ length (run_bank setup n)
    → k + length groups ≤ length (run_bank setup n)
next-within setup n k groups is h =
    omega (arith, ap length is, length-take (length groups) (drop k (run_bank setup n)), length-drop k (run_bank setup n))

-- of the last quantum they are all
pub all_next : (setup : SetupFields) (n k : ℕ) (groups : List GroupFields) → groups ≡ drop k (run_bank setup n) → k ≤ length (run_bank setup n)
    → k + length groups ≡ length (run_bank setup n)
all_next setup n k groups is h = omega (arith, ap length is, length-drop k (run_bank setup n))

pub earlier-within : (setup : SetupFields) (c n k : ℕ) → c ≤ n → k ≤ length (run_bank setup c) → k ≤ length (run_bank setup n)
earlier-within setup c n k h le =
    let more = run_bank-more setup c n h in
    omega (arith, ap length more.1, length-append (run_bank setup c) more.0)
