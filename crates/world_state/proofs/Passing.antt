-- A test that goes along a list, as a loop does.
use Rattle.std.proofs.Common.{◌≡◌, ◌∙◌, ℕ, zero, suc, ◌+◌, ◌<◌, ◌≤◌, ◌^◌, Bool, true, false, List, [], ◌∷◌, Option, Some, None, sym, ap, subst, refl, arith}
use Rattle.std.proofs.Common.{get_or, length, drop}
use Rattle.std.specs.Prelude.{if◌then◌else◌, pos, nat_le, nat_lt, unwrap_or, ◌&&◌}
use Rattle.std.proofs.lemmas.Bool.Decides.{nat_tests}
use Rattle.tierra_model.specs.declared.creatures.Block.{Block}
use Rattle.tierra_model.specs.declared.creatures.Creature.{Creature}
use Rattle.world_state.specs.declared.fields.StoredGenotype.{StoredGenotype}
use Rattle.world_state.specs.declared.saving.Saving.{Saving}
use Rattle.world_state.specs.Checks.{apart_step, counted, is_parent, number_step, parent_step, passes, rising_step, size_step}

passes-next : {S X : Type 0} (step : S → X → Option S) (s t : S) (xs : List X) (k : ℕ) (d : X) → k < length xs
    → step s (get_or xs k d) ≡ Some t → passes step s (drop k xs) ≡ passes step t (drop (suc k) xs)
unfolding passes
passes-next step s t [] k d lt on = absurd (omega arith)
passes-next {S = S} step s t (x ∷ xs) zero d lt on =
    ap (λ (o : Option S). elim o [ None ↦ false | Some t ↦ passes step t xs ]) on
passes-next step s t (x ∷ xs) (suc k) d lt on = passes-next step s t xs k d (omega arith) on

pub passes-on : {S X : Type 0} (step : S → X → Option S) (s t : S) (xs : List X) (k : ℕ) (d : X) (whole : Bool) → k < length xs
    → step s (get_or xs k d) ≡ Some t → passes step s (drop k xs) ≡ whole → passes step t (drop (k + 1) xs) ≡ whole
passes-on step s t xs k d whole lt on so_far =
    let next : suc k ≡ k + 1 = omega arith in
    subst (λ n. passes step t (drop n xs) ≡ whole) next (sym (passes-next step s t xs k d lt on) ∙ so_far)

pub passes-not : {S X : Type 0} (step : S → X → Option S) (s : S) (xs : List X) (k : ℕ) (d : X) (whole : Bool) → k < length xs
    → step s (get_or xs k d) ≡ None → passes step s (drop k xs) ≡ whole → false ≡ whole
unfolding passes
passes-not step s [] k d whole lt stops so_far = absurd (omega arith)
passes-not {S = S} step s (x ∷ xs) zero d whole lt stops so_far =
    sym (ap (λ (o : Option S). elim o [ None ↦ false | Some t ↦ passes step t xs ]) stops) ∙ so_far
passes-not step s (x ∷ xs) (suc k) d whole lt stops so_far = passes-not step s xs k d whole (omega arith) stops so_far

pub passes-all : {S X : Type 0} (step : S → X → Option S) (s : S) (xs : List X) (k : ℕ) (whole : Bool) → length xs ≤ k
    → passes step s (drop k xs) ≡ whole → true ≡ whole
unfolding passes
passes-all step s [] zero whole le so_far = so_far
passes-all step s [] (suc k) whole le so_far = so_far
passes-all step s (x ∷ xs) zero whole le so_far = absurd (omega arith)
passes-all step s (x ∷ xs) (suc k) whole le so_far = passes-all step s xs k whole (omega arith) so_far

-- ---- the steps

-- for what is past the end of a list
abbrev pub no_creature : Creature
no_creature =
    record {
      id = 0;
      own = record { at = 0; size = 0 };
      daughter = None;
      moved = 0;
      ax = pos 0;
      bx = pos 0;
      cx = pos 0;
      dx = pos 0;
      ip = 0;
      stack = [];
      sp = 0;
      flag = 0;
      errors = 0;
      genotype = 0;
      ran = 0;
      bred = 0;
    }

pub number-on : (next low : ℕ) (c : Creature) → low ≤ c.id → c.id < next → number_step next low c ≡ Some (c.id + 1)
number-on next low c le lt =
    let is : (nat_le low c.id && nat_lt c.id next) ≡ true = grind (arith, nat_tests) in
    rw is refl

pub number-low : (next low : ℕ) (c : Creature) → c.id < low → number_step next low c ≡ None
number-low next low c lt =
    let isnt : (nat_le low c.id && nat_lt c.id next) ≡ false = grind (arith, nat_tests) in
    rw isnt refl

pub number-high : (next low : ℕ) (c : Creature) → next ≤ c.id → number_step next low c ≡ None
number-high next low c le =
    let isnt : (nat_le low c.id && nat_lt c.id next) ≡ false = grind (arith, nat_tests) in
    rw isnt refl

pub parent-on : (k : ℕ) (f : StoredGenotype) → is_parent k f.parent ≡ true → parent_step k f ≡ Some (k + 1)
parent-on k f below = rw below refl

pub parent-not : (k : ℕ) (f : StoredGenotype) → is_parent k f.parent ≡ false → parent_step k f ≡ None
parent-not k f above = rw above refl

pub rising-on : (q : ℕ) (s : Saving) → q ≤ s.quantum → rising_step q s ≡ Some s.quantum
rising-on q s le =
    let is : nat_le q s.quantum ≡ true = grind (arith, nat_tests) in
    rw is refl

pub rising-not : (q : ℕ) (s : Saving) → s.quantum < q → rising_step q s ≡ None
rising-not q s lt =
    let isnt : nat_le q s.quantum ≡ false = grind (arith, nat_tests) in
    rw isnt refl

pub size-on : (stored : List StoredGenotype) (run : ℕ × ℕ) (s : Saving) (n : ℕ) → n ≡ counted stored run s → n < 2 ^ 30
    → size_step stored run s ≡ Some (s.quantum, n)
size-on stored run s n same lt =
    let is : nat_lt (counted stored run s) (2 ^ 30) ≡ true = few (counted stored run s) (subst (λ m. m < 2 ^ 30) same lt) in
    rw is (ap (λ (m : ℕ). Some (s.quantum, m)) (sym same))
  where
    few : (m : ℕ) → m < 2 ^ 30 → nat_lt m (2 ^ 30) ≡ true
    few m lt = grind (arith, nat_tests)

pub size-not : (stored : List StoredGenotype) (run : ℕ × ℕ) (s : Saving) (n : ℕ) → n ≡ counted stored run s → 2 ^ 30 ≤ n
    → size_step stored run s ≡ None
size-not stored run s n same le =
    let isnt : nat_lt (counted stored run s) (2 ^ 30) ≡ false = many (counted stored run s) (subst (λ m. 2 ^ 30 ≤ m) same le) in
    rw isnt refl
  where
    many : (m : ℕ) → 2 ^ 30 ≤ m → nat_lt m (2 ^ 30) ≡ false
    many m le = grind (arith, nat_tests)

pub apart-on : (end : ℕ) (b : Block) → end ≤ b.at → apart_step end b ≡ Some (b.at + b.size)
apart-on end b le =
    let is : nat_le end b.at ≡ true = grind (arith, nat_tests) in
    rw is refl

pub apart-not : (end : ℕ) (b : Block) → b.at < end → apart_step end b ≡ None
apart-not end b lt =
    let isnt : nat_le end b.at ≡ false = grind (arith, nat_tests) in
    rw isnt refl

-- ---- what passing says

abbrev continues : {S X : Type 0} → (S → X → Option S) → List X → Option S → Bool
continues step xs None = false
continues step xs (Some t) = passes step t xs

pub record Stepped {S X : Type 0} (step : S → X → Option S) (s : S) (x : X) (xs : List X) : Type 0 where
  pub next : S
  pub on : step s x ≡ Some next
  pub rest : passes step next xs ≡ true

pub passed-first : {S X : Type 0} (step : S → X → Option S) (s : S) (x : X) (xs : List X) → passes step s (x ∷ xs) ≡ true → Stepped step s x xs
unfolding passes
passed-first {S = S} step s x xs all = go (step s x) refl all
  where
    go : (o : Option S) → step s x ≡ o → (elim o [ None ↦ false | Some t ↦ passes step t xs ]) ≡ true → Stepped step s x xs
    go None e h = absurd cc
    go (Some t) e h = record { next = t; on = e; rest = h }

pub passes-first : {S X : Type 0} (step : S → X → Option S) (s t : S) (x : X) (xs : List X) → step s x ≡ Some t → passes step t xs ≡ true
    → passes step s (x ∷ xs) ≡ true
unfolding passes
passes-first {S = S} step s t x xs on rest =
    ap (λ (o : Option S). elim o [ None ↦ false | Some t ↦ passes step t xs ]) on ∙ rest

pub passes-none : {S X : Type 0} (step : S → X → Option S) (s : S) → passes step s [] ≡ true
unfolding passes
passes-none step s = refl

-- what a step says that goes on where a test passes
pub if_some : {X : Type 0} (b : Bool) (x t : X) → (if b then Some x else None) ≡ Some t → (b ≡ true) × (x ≡ t)
if_some {X = X} true x t e = (refl, ap (λ (o : Option X). unwrap_or o x) e)
if_some false x t e = absurd cc
