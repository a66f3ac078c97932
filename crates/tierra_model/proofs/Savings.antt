-- The saved genotypes stay those whose total reached save_at, as one more individual is counted.
use Rattle.std.proofs.Common.{◌≡◌, ℕ, zero, suc, ◌+◌, ◌^◌, ◌<◌, ◌≤◌, Bool, List, [], ◌∷◌, ◌++◌, refl, sym, ◌∙◌, ap, subst, arith, inl, inr, ◌≢◌, length}
use Rattle.std.specs.Prelude.{All, ◌==◌, if◌then◌else◌, nat_le}
use Rattle.std.proofs.lemmas.Bool.Decides.{nat_tests, eqb_tells}
use Rattle.std.proofs.lemmas.List.Elements.{All-head, All-tail, All-push, All-weaker}
use Rattle.tierra_model.specs.Counting.{one_if, times_in}
use Rattle.tierra_model.specs.Ranges.{AreEfforts}
use Rattle.tierra_model.specs.World.{Genotype, Saving, genotype_at}
use Rattle.tierra_model.specs.Sound.{Rising, numbers_of, saved_size}
use Rattle.tierra_model.specs.Individuals.{savings_after}
use Rattle.tierra_model.proofs.Owners.{sum_of-append, times_in-append}
use Rattle.tierra_model.proofs.Genotypes.{Counts, HasEfforts}

abbrev pub KeepsEfforts : Saving → Type 0
KeepsEfforts s = AreEfforts s.first_effort s.second_effort

-- what a sound world says of its saved genotypes, in quantum q, which saved z at the most
pub record Saves (q z save_at : ℕ) (gs : List Genotype) (saved : List Saving) : Type 0 where
  pub once : (k : ℕ) → times_in (numbers_of saved) k ≡ one_if (nat_le save_at (genotype_at gs k).total)
  pub known : All (λ s. s.genotype < length gs) saved
  pub rising : Rising 0 saved
  pub past : All (λ s. s.quantum ≤ q) saved
  pub efforts : All KeepsEfforts saved
  pub sizes : (p : ℕ) → p ≢ q → saved_size gs saved p < 2 ^ 30
  pub size : saved_size gs saved q ≤ z

abbrev Among : ℕ → Saving → Type 0
Among n s = s.genotype < n

abbrev By : ℕ → Saving → Type 0
By q s = s.quantum ≤ q

numbers_of-append : (xs ys : List Saving) → numbers_of (xs ++ ys) ≡ numbers_of xs ++ numbers_of ys
numbers_of-append [] ys = refl
numbers_of-append (x ∷ xs) ys = ap (λ (l : List ℕ). x.genotype ∷ l) (numbers_of-append xs ys)

rising-push : (p q : ℕ) (saved : List Saving) (s : Saving) → p ≤ q → s.quantum ≡ q → Rising p saved → All (By q) saved → Rising p (saved ++ s ∷ [])
rising-push p q [] s h e r a = (omega arith, tt)
rising-push p q (x ∷ xs) s h e r a = (r.0, rising-push x.quantum q xs s (All-head (By q) x xs a) e r.1 (All-tail (By q) x xs a))

-- the codes of the saved genotypes stay, and so do their sizes
pub size-same : (gs hs : List Genotype) (saved : List Saving) (p : ℕ) → ((j : ℕ) → j < length gs → (genotype_at hs j).code ≡ (genotype_at gs j).code)
    → All (Among (length gs)) saved → saved_size hs saved p ≡ saved_size gs saved p
size-same gs hs [] p h a = refl
size-same gs hs (s ∷ rest) p h a =
    let e = h s.genotype (All-head (Among (length gs)) s rest a) in
    let r = size-same gs hs rest p h (All-tail (Among (length gs)) s rest a) in
    (λ i. (if s.quantum == p then length (e i) + 100 else 0) + r i)

-- a saving is of the quantum, or of another
abbrev weight : List Genotype → ℕ → Saving → ℕ
weight gs p s = if s.quantum == p then length (genotype_at gs s.genotype).code + 100 else 0

abbrev saving : List Genotype → ℕ → ℕ → Saving
saving gs k q =
    record { genotype = k; quantum = q; first_effort = (genotype_at gs k).first_effort; second_effort = (genotype_at gs k).second_effort }

weight-same : (gs : List Genotype) (code : List ℕ) (k q : ℕ) → (genotype_at gs k).code ≡ code → weight gs q (saving gs k q) ≡ length code + 100
weight-same gs code k q e = elim (eqb_tells q q) [
  | inl a ↦ ap (λ (b : Bool). if b then length (genotype_at gs k).code + 100 else 0) a.0 ∙ ap (λ (c : List ℕ). length c + 100) e
  | inr a ↦ absurd (a.1 refl)
]

weight-other : (gs : List Genotype) (k q p : ℕ) → p ≢ q → weight gs p (saving gs k q) ≡ 0
weight-other gs k q p h = elim (eqb_tells q p) [
  | inl a ↦ absurd (h (sym a.1))
  | inr a ↦ ap (λ (b : Bool). if b then length (genotype_at gs k).code + 100 else 0) a.0
]

efforts_at : (gs : List Genotype) (k : ℕ) → All HasEfforts gs → k < length gs → HasEfforts (genotype_at gs k)
efforts_at [] k h l = absurd (omega arith)
efforts_at (g ∷ gs) zero h l = All-head HasEfforts g gs h
efforts_at (g ∷ gs) (suc k) h l = efforts_at gs k (All-tail HasEfforts g gs h) (omega arith)

stays : (a n m : ℕ) → m ≡ n + 1 → m ≢ a → one_if (nat_le a n) ≡ one_if (nat_le a m)
stays a n m e h = grind (arith, nat_tests)

pub saves-with_individual : (q z save_at : ℕ) (gs hs : List Genotype) (code : List ℕ) (k : ℕ) (saved : List Saving) → Counts code gs hs k → All HasEfforts hs
    → Saves q z save_at gs saved
    → Saves q (z + (length code + 100)) save_at hs (savings_after save_at hs k q saved)
saves-with_individual q z a gs hs code k saved c f s = elim (eqb_tells (genotype_at hs k).total a) [
  | inl e ↦ subst (λ b. Saves q (z + (length code + 100)) a hs (if b then saved ++ new ∷ [] else saved)) (sym e.0) (more e.1)
  | inr e ↦ subst (λ b. Saves q (z + (length code + 100)) a hs (if b then saved ++ new ∷ [] else saved)) (sym e.0) (less e.1)
]
  where
    new : Saving
    new = saving hs k q

    known : All (Among (length hs)) saved
    known = All-weaker (Among (length gs)) (Among (length hs)) (λ x h. omega (arith, c.longer)) saved s.known

    same : (p : ℕ) → saved_size hs saved p ≡ saved_size gs saved p
    same p = size-same gs hs saved p c.codes s.known

    less : (genotype_at hs k).total ≢ a → Saves q (z + (length code + 100)) a hs saved
    less n =
        record {
          once = λ j. s.once j ∙ elim (eqb_tells j k) [
            | inl e ↦ subst (λ i. one_if (nat_le a (genotype_at gs i).total) ≡ one_if (nat_le a (genotype_at hs i).total)) (sym e.1)
                (stays a (genotype_at gs k).total (genotype_at hs k).total c.same n)
            | inr e ↦ ap (λ (t : ℕ). one_if (nat_le a t)) (sym (c.other j e.1))
          ];
          known = known;
          rising = s.rising;
          past = s.past;
          efforts = s.efforts;
          sizes = λ p h. rw (same p) (s.sizes p h);
          size = omega (arith, same q, s.size);
        }

    more : (genotype_at hs k).total ≡ a → Saves q (z + (length code + 100)) a hs (saved ++ new ∷ [])
    more n =
        record {
          once = λ j. ap (λ (l : List ℕ). times_in l j) (numbers_of-append saved (new ∷ [])) ∙ times_in-append (numbers_of saved) (k ∷ []) j ∙ once j n;
          known = All-push (Among (length hs)) saved new known c.among;
          rising = rising-push 0 q saved new (omega arith) refl s.rising s.past;
          past = All-push (By q) saved new s.past (omega arith);
          efforts = All-push KeepsEfforts saved new s.efforts (efforts_at hs k f c.among);
          sizes = λ p h. (let w = weight-other hs k q p h in let o = same p in let t = s.sizes p h in
              let sum = sum_of-append (weight hs p) saved (new ∷ []) in omega arith);
          size = (let w = weight-same hs code k q c.coded in let o = same q in let t = s.size in
              let sum = sum_of-append (weight hs q) saved (new ∷ []) in omega arith);
        }
      where
        once : (j : ℕ) → (genotype_at hs k).total ≡ a → times_in (numbers_of saved) j + times_in (k ∷ []) j ≡ one_if (nat_le a (genotype_at hs j).total)
        once j n = elim (eqb_tells k j) [
          | inl e ↦ subst (λ i. times_in (numbers_of saved) i + times_in (k ∷ []) i ≡ one_if (nat_le a (genotype_at hs i).total)) e.1
              (let o = s.once k in let m = c.same in grind (arith, nat_tests))
          | inr e ↦ (let o = s.once j in let m = c.other j (λ h. e.1 (sym h)) in
              let f : one_if (k == j) ≡ 0 = ap one_if e.0 in
              let g : one_if (nat_le a (genotype_at gs j).total) ≡ one_if (nat_le a (genotype_at hs j).total) = ap (λ (t : ℕ). one_if (nat_le a t)) (sym m) in
              omega arith)
        ]
