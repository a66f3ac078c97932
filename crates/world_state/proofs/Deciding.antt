-- What the tests of a world's parts decide.
use Rattle.std.proofs.Common.{◌≡◌, ◌⊎◌, ℕ, zero, suc, ◌+◌, ◌<◌, ◌≤◌, ◌^◌, Bool, List, [], ◌∷◌, None, Some, Option, refl, sym, subst, arith, length, true, false}
use Rattle.std.proofs.Common.{inl, inr}
use Rattle.std.specs.Prelude.{if◌then◌else◌, ◌&&◌, ◌↔◌, ◌==◌, All, IfSome, nat_le, nat_lt, slice_index_or}
use Rattle.std.specs.List.{list_all}
use Rattle.std.proofs.lemmas.Bool.{cases_eq}
use Rattle.std.proofs.lemmas.Bool.Decides.{nat_tests}
use Rattle.std.proofs.lemmas.List.Elements.{All-weaker}
use Rattle.std.proofs.lemmas.List.Sums.{AllPass-from_list_all, list_all-from_AllPass}
use Rattle.tierra_model.specs.declared.limits.TheConstants.{MOST_SIZE}
use Rattle.tierra_model.specs.declared.creatures.Block.{Block}
use Rattle.tierra_model.specs.declared.creatures.Creature.{Creature}
use Rattle.tierra_model.specs.declared.creatures.Effort.{Effort}
use Rattle.tierra_model.specs.Living.{ids_of}
use Rattle.tierra_model.specs.Ranges.{AreEfforts, IsBlock, IsCode}
use Rattle.tierra_model.specs.Sound.{IsPlaced, Ordered, ParentsBelow, Rising, saved_size}
use Rattle.tierra_model.specs.World.{Genotype, genotype_at, Saving as ModelSaving}
use Rattle.tierra_model.proofs.Each.{Each}
use Rattle.world_state.specs.declared.fields.StoredGenotype.{StoredGenotype}
use Rattle.world_state.specs.declared.saving.Saving.{Saving}
use Rattle.world_state.specs.Checks.{counted, has_counts, has_places, is_block_in, is_code, is_code_number, is_daughter_in, is_effort, is_genotype, is_parent}
use Rattle.world_state.specs.Checks.{is_placed, is_saving, no_found, number_step, parent_step, passes, rising_step, size_step}
use Rattle.world_state.specs.Reading.{genotypes_of}
use Rattle.world_state.specs.Savings.{savings_of}
use Rattle.world_state.proofs.Passing.{if_some, number-on, parent-on, passed-first, passes-first, passes-none, rising-on, size-on}

-- a test of each element
pub all-decides : {X : Type 0} (p : X → Bool) (P : X → Type 0) → ((x : X) → (p x ≡ true) ↔ P x) → (xs : List X)
    → (list_all p xs ≡ true) ↔ All P xs
all-decides p P one xs = (
  λ e. All-weaker (λ x. p x ≡ true) P (λ x. (one x).0) xs (AllPass-from_list_all p xs e),
  λ all. list_all-from_AllPass p xs (All-weaker P (λ x. p x ≡ true) (λ x. (one x).1) xs all),
)

-- two tests together
pub both-decide : (a b : Bool) (P Q : Type 0) → (a ≡ true) ↔ P → (b ≡ true) ↔ Q → ((a && b) ≡ true) ↔ (P × Q)
both-decide true true P Q one two = (λ e. (one.0 refl, two.0 refl), λ h. refl)
both-decide true false P Q one two = (λ e. absurd cc, λ h. two.1 h.1)
both-decide false b P Q one two = (λ e. absurd cc, λ h. one.1 h.0)

le-decides : (m n : ℕ) → (nat_le m n ≡ true) ↔ (m ≤ n)
le-decides m n = (λ e. grind (arith, nat_tests), λ h. grind (arith, nat_tests))

pub lt-decides : (m n : ℕ) → (nat_lt m n ≡ true) ↔ (m < n)
lt-decides m n = (λ e. grind (arith, nat_tests), λ h. grind (arith, nat_tests))

-- ---- creatures

block-decides : (n : ℕ) (b : Block) → (is_block_in n b ≡ true) ↔ IsBlock n b
block-decides n b = (λ e. (grind (arith, nat_tests), grind (arith, nat_tests), grind (arith, nat_tests)), λ h. grind (arith, nat_tests))

daughter-decides : (n : ℕ) (o : Option Block) → (is_daughter_in n o ≡ true) ↔ IfSome o (IsBlock n)
daughter-decides n None = (λ e. tt, λ h. refl)
daughter-decides n (Some b) = block-decides n b

pub placed-decides : (n : ℕ) (c : Creature) → (is_placed n c ≡ true) ↔ IsPlaced n c
placed-decides n c =
    let both = both-decide (is_block_in n c.own) (is_daughter_in n c.daughter) (IsBlock n c.own) (IfSome c.daughter (IsBlock n))
    (block-decides n c.own) (daughter-decides n c.daughter) in
    (λ e. (let p = both.0 e in record { own = p.0; daughter = p.1 }), λ h. both.1 (h.own, h.daughter))

pub places-decide : (n : ℕ) (c : Creature) → (has_places n c ≡ true) ↔ ((c.ip < n) × (c.sp < 10))
places-decide n c = both-decide (nat_lt c.ip n) (nat_lt c.sp 10) (c.ip < n) (c.sp < 10) (lt-decides c.ip n) (lt-decides c.sp 10)

pub counts-decide : (limit : ℕ) (c : Creature) → (has_counts limit c ≡ true) ↔ ((c.errors ≤ limit) × (c.moved ≤ limit) × (c.ran ≤ limit) × (c.bred ≤ limit))
counts-decide limit c =
    (λ e. (grind (arith, nat_tests), grind (arith, nat_tests), grind (arith, nat_tests), grind (arith, nat_tests)), λ h. grind (arith, nat_tests))

-- ---- genotypes and savings

effort-decides : (o : Option Effort) → (is_effort o ≡ true) ↔ IfSome o (λ (e : Effort). 1 ≤ e.ran)
effort-decides None = (λ e. tt, λ h. refl)
effort-decides (Some e) = le-decides 1 e.ran

pub cell-decides : (v : ℕ) → (is_code_number v ≡ true) ↔ (v < 32)
cell-decides v = lt-decides v 32

abbrev IsCodeIn : List ℕ → Type 0
IsCodeIn code = ((1 ≤ length code) × (length code ≤ MOST_SIZE)) × All (λ v. v < 32) code

code-decides : (code : List ℕ) → (is_code code ≡ true) ↔ IsCodeIn code
code-decides code =
    both-decide (nat_le 1 (length code) && nat_le (length code) MOST_SIZE) (list_all is_code_number code) _ _
    (both-decide (nat_le 1 (length code)) (nat_le (length code) MOST_SIZE) _ _ (le-decides 1 (length code)) (le-decides (length code) MOST_SIZE))
    (all-decides is_code_number (λ v. v < 32) cell-decides code)

abbrev pub IsGenotypeIn : ℕ → StoredGenotype → Type 0
IsGenotypeIn limit f = IsCode f.code × (f.total ≤ limit) × AreEfforts f.first_effort f.second_effort

pub genotype-decides : (limit : ℕ) (f : StoredGenotype) → (is_genotype limit f ≡ true) ↔ IsGenotypeIn limit f
genotype-decides limit f =
    let one = both-decide (is_code f.code) (nat_le f.total limit) _ _ (code-decides f.code) (le-decides f.total limit) in
    let two = both-decide (is_code f.code && nat_le f.total limit) (is_effort f.first_effort) _ _ one (effort-decides f.first_effort) in
    let all = both-decide (is_code f.code && nat_le f.total limit && is_effort f.first_effort)
    (is_effort f.second_effort) _ _ two (effort-decides f.second_effort) in (
      λ e. (let p = all.0 e in ((p.0.0.0.0.0, p.0.0.0.0.1, p.0.0.0.1), p.0.0.1, (p.0.1, p.1))),
      λ h. all.1 (((((h.0.0, h.0.1), h.0.2), h.1), h.2.0), h.2.1),
    )

abbrev pub IsSavingIn : ℕ → Saving → Type 0
IsSavingIn quanta s = (s.quantum ≤ quanta) × AreEfforts s.first_effort s.second_effort

pub saving-decides : (quanta : ℕ) (s : Saving) → (is_saving quanta s ≡ true) ↔ IsSavingIn quanta s
saving-decides quanta s =
    let one = both-decide (nat_le s.quantum quanta) (is_effort s.first_effort) _ _ (le-decides s.quantum quanta) (effort-decides s.first_effort) in
    let all = both-decide (nat_le s.quantum quanta && is_effort s.first_effort) (is_effort s.second_effort) _ _ one (effort-decides s.second_effort) in
    (λ e. (let p = all.0 e in (p.0.0, (p.0.1, p.1))), λ h. all.1 ((h.0, h.1.0), h.1.1))

-- ---- tests along a list

pub numbered-decides : (next low : ℕ) (xs : List Creature)
    → (passes (number_step next) low xs ≡ true) ↔ (Ordered low (ids_of xs) × Each (λ c. c.id < next) xs)
numbered-decides next low [] = (λ e. (tt, tt), λ h. passes-none (number_step next) low)
numbered-decides next low (x ∷ xs) = (
  λ e. (let s = passed-first (number_step next) low x xs e in
      let t = if_some (nat_le low x.id && nat_lt x.id next) (x.id + 1) s.next s.on in
      let test : (nat_le low x.id && nat_lt x.id next) ≡ true = t.0 in
      let rest = (numbered-decides next (x.id + 1) xs).0 (subst (λ n. passes (number_step next) n xs ≡ true) (sym t.1) s.rest) in
      ((grind (arith, nat_tests), rest.0), (grind (arith, nat_tests), rest.1))),
  λ h. passes-first (number_step next) low (x.id + 1) x xs (number-on next low x h.0.0 h.1.0)
      ((numbered-decides next (x.id + 1) xs).1 (h.0.1, h.1.1)),
)

parent-decides : (k : ℕ) (o : Option ℕ) → (is_parent k o ≡ true) ↔ IfSome o (λ p. p < k)
parent-decides k None = (λ e. tt, λ h. refl)
parent-decides k (Some p) = lt-decides p k

pub parents-decide : (k : ℕ) (fs : List StoredGenotype) → (passes parent_step k fs ≡ true) ↔ ParentsBelow k (genotypes_of fs)
parents-decide k [] = (λ e. tt, λ h. passes-none parent_step k)
parents-decide k (f ∷ fs) = (
  λ e. (let s = passed-first parent_step k f fs e in
      let t = if_some (is_parent k f.parent) (k + 1) s.next s.on in
      ((parent-decides k f.parent).0 t.0, (parents-decide (k + 1) fs).0 (subst (λ n. passes parent_step n fs ≡ true) (sym t.1) s.rest))),
  λ h. passes-first parent_step k (k + 1) f fs (parent-on k f ((parent-decides k f.parent).1 h.0)) ((parents-decide (k + 1) fs).1 h.1),
)

pub rising-decides : (q : ℕ) (ss : List Saving) → (passes rising_step q ss ≡ true) ↔ Rising q (savings_of ss)
rising-decides q [] = (λ e. tt, λ h. passes-none rising_step q)
rising-decides q (x ∷ ss) = (
  λ e. (let s = passed-first rising_step q x ss e in
      let t = if_some (nat_le q x.quantum) x.quantum s.next s.on in
      ((le-decides q x.quantum).0 t.0, (rising-decides x.quantum ss).0 (subst (λ n. passes rising_step n ss ≡ true) (sym t.1) s.rest))),
  λ h. passes-first rising_step q x.quantum x ss (rising-on q x h.0) ((rising-decides x.quantum ss).1 h.1),
)

-- ---- the sizes of quanta

size-same : (fs : List StoredGenotype) (k : ℕ) → length (slice_index_or fs k no_found).code ≡ length (genotype_at (genotypes_of fs) k).code
size-same [] k = refl
size-same (f ∷ fs) zero = refl
size-same (f ∷ fs) (suc k) = size-same fs k

when_same : (m n : ℕ) → (if m == m then n else 0) ≡ n
when_same m n =
    let is : (m == m) ≡ true = grind (arith, nat_tests) in
    rw is refl

when_other : (k m n : ℕ) → (k ≡ m → ⊥) → (if k == m then n else 0) ≡ 0
when_other k m n other =
    let isnt : (k == m) ≡ false = grind (arith, nat_tests) in
    rw isnt refl

none-earlier : (gs : List Genotype) (q r : ℕ) (ss : List ModelSaving) → Rising q ss → r < q → saved_size gs ss r ≡ 0
none-earlier gs q r [] up lt = refl
none-earlier gs q r (s ∷ ss) up lt =
    let later = up.0 in
    let rest = none-earlier gs s.quantum r ss up.1 (omega (arith, lt, later)) in
    let other = when_other s.quantum r (length (genotype_at gs s.genotype).code + 100) (λ e. omega (arith, lt, later, e)) in
    omega (arith, rest, other)

-- what was counted of the quantum, and what comes of it
abbrev pub in_all : List StoredGenotype → ℕ × ℕ → List Saving → ℕ → ℕ
in_all fs run ss r = (if r == run.0 then run.1 else 0) + saved_size (genotypes_of fs) (savings_of ss) r

record Cases (fs : List StoredGenotype) (run : ℕ × ℕ) (s : Saving) (ss : List Saving) : Type 0 where
  here : in_all fs run (s ∷ ss) s.quantum ≡ counted fs run s + saved_size (genotypes_of fs) (savings_of ss) s.quantum
  after : in_all fs (s.quantum, counted fs run s) ss s.quantum ≡ counted fs run s + saved_size (genotypes_of fs) (savings_of ss) s.quantum

cases-of : (fs : List StoredGenotype) (run : ℕ × ℕ) (s : Saving) (ss : List Saving) → Cases fs run s ss
cases-of fs run s ss =
    let gs = genotypes_of fs in
    let size : ℕ = length (genotype_at gs s.genotype).code + 100 in
    let same = size-same fs s.genotype in
    let one = when_same s.quantum size in
    let two = when_same s.quantum (counted fs run s) in
    record { here = omega (arith, one, same); after = omega (arith, two) }

other-here : (fs : List StoredGenotype) (run : ℕ × ℕ) (s : Saving) (ss : List Saving) (r : ℕ) → (s.quantum ≡ r → ⊥)
    → in_all fs run (s ∷ ss) r ≡ in_all fs run ss r
other-here fs run s ss r other =
    let gs = genotypes_of fs in
    let none = when_other s.quantum r (length (genotype_at gs s.genotype).code + 100) other in
    omega (arith, none)

other-after : (fs : List StoredGenotype) (q n : ℕ) (ss : List Saving) (r : ℕ) → (q ≡ r → ⊥)
    → in_all fs (q, n) ss r ≡ saved_size (genotypes_of fs) (savings_of ss) r
other-after fs q n ss r other =
    let none = when_other r q n (λ e. other (sym e)) in
    omega (arith, none)

pub sizes-decide : (fs : List StoredGenotype) (q n : ℕ) (ss : List Saving) → Rising q (savings_of ss) → n < 2 ^ 30
    → (passes (size_step fs) (q, n) ss ≡ true) ↔ ((r : ℕ) → in_all fs (q, n) ss r < 2 ^ 30)
sizes-decide fs q n [] up few = (λ e r. few_at r (cases_eq r q), λ h. passes-none (size_step fs) (q, n))
  where
    few_at : (r : ℕ) → (r ≡ q) ⊎ (r ≡ q → ⊥) → in_all fs (q, n) [] r < 2 ^ 30
    few_at r (inl e) = (let is = when_same q n in subst (λ k. in_all fs (q, n) [] k < 2 ^ 30) (sym e) (omega (arith, is, few)))
    few_at r (inr other) = (let none = when_other r q n other in omega (arith, none))
sizes-decide fs q n (s ∷ ss) up few =
    let c = cases-of fs (q, n) s ss in
    let here = c.here in
    let after = c.after in
    let later = up.0 in (
      λ e r. (let t = passed-first (size_step fs) (q, n) s ss e in
          let u = if_some (nat_lt (counted fs (q, n) s) (2 ^ 30)) (s.quantum, counted fs (q, n) s) t.next t.on in
          let small : counted fs (q, n) s < 2 ^ 30 = (lt-decides (counted fs (q, n) s) (2 ^ 30)).0 u.0 in
          let rest = (sizes-decide fs s.quantum (counted fs (q, n) s) ss up.1 small).0 (subst (λ run. passes (size_step fs) run ss ≡ true) (sym u.1) t.rest) in
          elim (cases_eq s.quantum r) [
            | inl same ↦ subst (λ k. in_all fs (q, n) (s ∷ ss) k < 2 ^ 30) same (let r1 = rest s.quantum in omega (arith, here, after, r1))
            | inr other ↦ (let a = other-here fs (q, n) s ss r other in elim (cases_eq q r) [
              | inl first ↦ (let none = none-earlier (genotypes_of fs) s.quantum r (savings_of ss) up.1 (omega (arith, later, first, other)) in
                  let is : (if r == q then n else 0) ≡ n = subst (λ k. (if k == q then n else 0) ≡ n) first (when_same q n) in omega (arith, a, none, is, few))
              | inr neither ↦ (let b = other-after fs q n ss r neither in let d = other-after fs s.quantum (counted fs (q, n) s) ss r other in let r2 =
                  rest r in omega (arith, a, b, d, r2))
            ])
          ]),
      λ h.
          let small : counted fs (q, n) s < 2 ^ 30 = (let one = h s.quantum in omega (arith, here, one)) in
          passes-first (size_step fs) (q, n) (s.quantum, counted fs (q, n) s) s ss (size-on fs (q, n) s (counted fs (q, n) s) refl small)
          ((sizes-decide fs s.quantum (counted fs (q, n) s) ss up.1 small).1 (λ r. elim (cases_eq s.quantum r) [
            | inl same ↦ subst (λ k. in_all fs (s.quantum, counted fs (q, n) s) ss k < 2 ^ 30) same (let one = h s.quantum in omega (arith, here, after, one))
            | inr other ↦ (let a = other-here fs (q, n) s ss r other in let d = other-after fs s.quantum (counted fs (q, n) s) ss r other in let one =
                h r in omega (arith, a, d, one))
          ])),
    )
