-- Reaper lists and yards: moves, the numbers of newborns, and how each creature of a world stands in a yard.
use Rattle.std.proofs.Common.{◌≡◌, ℕ, zero, suc, ◌+◌, ◌-◌, ◌^◌, ◌<◌, ◌≤◌, Bool, true, false, List, [], ◌∷◌, refl, sym, ◌∙◌, ap, arith, inl, inr, length}
use Rattle.std.specs.Prelude.{Option, not, map, filter, unwrap_or, ◌==◌, if◌then◌else◌, nat_lt, slice_index}
use Rattle.std.proofs.lemmas.Bool.Decides.{nat_tests, eqb_tells}
use Rattle.tierra_model.specs.declared.creatures.Creature.{Creature}
use Rattle.tierra_model.specs.declared.creatures.Standing.{Standing}
use Rattle.tierra_model.specs.Queue.{error_move, good_move, place_of_first_other, number_of_others, without_place}
use Rattle.tierra_model.specs.Counting.{sum_of, one_if, times_in}
use Rattle.tierra_model.specs.Living.{one_of, with_record, nobody}
use Rattle.tierra_model.specs.Yard.{standing, with_standing, stand_in}
use Rattle.tierra_model.proofs.Shares.{Shares}
use Rattle.tierra_model.proofs.Living.{is_here, find-with_same, find-with_other}

-- ---- moves keep what is in a list, and go through a map

pub sum_of-error_move : {X : Type 0} (f : X → ℕ) (m : X → Bool) (e : X → ℕ) (xs : List X) → sum_of f (error_move m e xs) ≡ sum_of f xs
sum_of-error_move f m e [] = refl
sum_of-error_move f m e (x ∷ []) = refl
sum_of-error_move f m e (x ∷ y ∷ rest) = grind (arith, sum_of-error_move f m e (y ∷ rest))

pub sum_of-good_move : {X : Type 0} (f : X → ℕ) (m : X → Bool) (e : X → ℕ) (xs : List X) → sum_of f (good_move m e xs) ≡ sum_of f xs
sum_of-good_move f m e [] = refl
sum_of-good_move f m e (x ∷ []) = refl
sum_of-good_move f m e (x ∷ y ∷ rest) = grind (arith, sum_of-good_move f m e (y ∷ rest))

pub map-error_move : {X Y : Type 0} (f : X → Y) (m : Y → Bool) (e : Y → ℕ) (xs : List X)
    → map f (error_move (λ x. m (f x)) (λ x. e (f x)) xs) ≡ error_move m e (map f xs)
map-error_move f m e [] = refl
map-error_move f m e (x ∷ []) = refl
map-error_move f m e (x ∷ y ∷ rest) = grind (arith, map-error_move f m e (y ∷ rest))

pub map-good_move : {X Y : Type 0} (f : X → Y) (m : Y → Bool) (e : Y → ℕ) (xs : List X)
    → map f (good_move (λ x. m (f x)) (λ x. e (f x)) xs) ≡ good_move m e (map f xs)
map-good_move f m e [] = refl
map-good_move f m e (x ∷ []) = refl
map-good_move f m e (x ∷ y ∷ rest) = grind (arith, map-good_move f m e (y ∷ rest))

-- ---- the numbers of newborns

-- the number under which a creature of a world stands in a yard, where the quantum began with next
abbrev pub renamed : ℕ → ℕ → ℕ
renamed next id = if nat_lt id next then id else stand_in (id + 1 - next)

pub renamed-is : (next id c : ℕ) → c < next → c < 2 ^ 63 → (renamed next id == c) ≡ (id == c)
renamed-is next id c h k = grind (arith, nat_tests)

pub renamed-old : (next c : ℕ) → c < next → renamed next c ≡ c
renamed-old next c h = grind (arith, nat_tests)

pub renamed-new : (next k : ℕ) → renamed next (next + k) ≡ stand_in (k + 1)
renamed-new next k = grind (arith, nat_tests)

pub place_of_first_other-renamed : (next c : ℕ) (ids : List ℕ) → c < next → c < 2 ^ 63
    → place_of_first_other c (map (renamed next) ids) ≡ place_of_first_other c ids
place_of_first_other-renamed next c [] h k = refl
place_of_first_other-renamed next c (x ∷ xs) h k =
    let e : (renamed next x == c) ≡ (x == c) = renamed-is next x c h k in
    let r : place_of_first_other c (map (renamed next) xs) ≡ place_of_first_other c xs = place_of_first_other-renamed next c xs h k in
    cc

pub number_of_others-renamed : (next c : ℕ) (ids : List ℕ) → c < next → c < 2 ^ 63
    → number_of_others c (map (renamed next) ids) ≡ number_of_others c ids
number_of_others-renamed next c [] h k = refl
number_of_others-renamed next c (x ∷ xs) h k =
    let e : (renamed next x == c) ≡ (x == c) = renamed-is next x c h k in
    let r : number_of_others c (map (renamed next) xs) ≡ number_of_others c xs = number_of_others-renamed next c xs h k in
    cc

-- ---- how a creature of a world stands in a yard

abbrev pub stands_as : ℕ → List Creature → ℕ → Standing
stands_as next living id = record (standing (one_of living id)) { id = renamed next id }

pub map-cong : {X Y : Type 0} (f g : X → Y) → ((x : X) → f x ≡ g x) → (xs : List X) → map f xs ≡ map g xs
map-cong f g h xs = λ i. map (λ x. h x i) xs

pub one_of-with_same : (c : Creature) (living : List Creature) → is_here living c.id ≡ true → one_of (with_record c living) c.id ≡ c
one_of-with_same c living h = ap (λ (o : Option Creature). unwrap_or o nobody) (find-with_same c living h)

pub one_of-with_other : (c : Creature) (living : List Creature) (id : ℕ) → (id ≡ c.id → ⊥) → one_of (with_record c living) id ≡ one_of living id
one_of-with_other c living id h = ap (λ (o : Option Creature). unwrap_or o nobody) (find-with_other c living id h)

-- the standing of a record that is put in
pub stands-with : (next : ℕ) (c : Creature) (living : List Creature) (id : ℕ)
    → c.id < next → c.id < 2 ^ 63 → is_here living c.id ≡ true
    → (let s : Standing = (if (stands_as next living id).id == c.id then standing c else stands_as next living id) in s)
    ≡ stands_as next (with_record c living) id
stands-with next c living id h k here = elim (eqb_tells id c.id) [
  | inl e ↦
      (let a : one_of (with_record c living) id ≡ c =
      ap (λ (n : ℕ). one_of (with_record c living) n) e.1 ∙ one_of-with_same c living here in
      let b : renamed next id ≡ c.id = ap (λ (n : ℕ). renamed next n) e.1 ∙ renamed-old next c.id h in
      rw (renamed-is next id c.id h k) (rw (e.0)
      (sym (λ i. let s : Standing = record { id = b i; errors = (a i).errors; own = (a i).own; daughter = (a i).daughter } in s))))
  | inr e ↦
      (let a : one_of (with_record c living) id ≡ one_of living id = one_of-with_other c living id e.1 in
      rw (renamed-is next id c.id h k) (rw (e.0)
      (sym (ap (λ (d : Creature). let s : Standing = record (standing d) { id = renamed next id } in s) a))))
]

pub with_standing-map : (next : ℕ) (c : Creature) (living : List Creature) (ids : List ℕ)
    → c.id < next → c.id < 2 ^ 63 → is_here living c.id ≡ true
    → with_standing c (map (stands_as next living) ids) ≡ map (stands_as next (with_record c living)) ids
with_standing-map next c living [] h k here = refl
with_standing-map next c living (x ∷ xs) h k here =
    let e = stands-with next c living x h k here in
    let r : with_standing c (map (stands_as next living) xs) ≡ map (stands_as next (with_record c living)) xs = with_standing-map next c living xs h k here in
    cc

-- two records that stand alike, put in
pub stands-fits : (next : ℕ) (d c : Creature) (living : List Creature) → Shares d c → is_here living c.id ≡ true → (id : ℕ)
    → stands_as next (with_record c living) id ≡ stands_as next (with_record d living) id
stands-fits next d c living f here id = elim (eqb_tells id c.id) [
  | inl e ↦
      (let a : one_of (with_record c living) id ≡ c =
      ap (λ (n : ℕ). one_of (with_record c living) n) e.1 ∙ one_of-with_same c living here in
      let b : one_of (with_record d living) id ≡ d =
      ap (λ (n : ℕ). one_of (with_record d living) n) (e.1 ∙ f.id) ∙ one_of-with_same d living (rw (← f.id) here) in
      (λ i. let s : Standing = record { id = renamed next id; errors = (a i).errors; own = (a i).own; daughter = (a i).daughter } in s)
      ∙ (λ i. let s : Standing = record { id = renamed next id; errors = f.errors i; own = f.own i; daughter = f.daughter i } in s)
      ∙ sym (λ i. let s : Standing = record { id = renamed next id; errors = (b i).errors; own = (b i).own; daughter = (b i).daughter } in s))
  | inr e ↦
      (let a : one_of (with_record c living) id ≡ one_of living id = one_of-with_other c living id e.1 in
      let b : one_of (with_record d living) id ≡ one_of living id = one_of-with_other d living id (λ k. e.1 (k ∙ sym f.id)) in
      ap (λ (x : Creature). let s : Standing = record (standing x) { id = renamed next id } in s) (a ∙ sym b))
]

-- a record that stands as the one before it, put in
pub stands-put : (next : ℕ) (c : Creature) (living : List Creature) → Shares (one_of living c.id) c → is_here living c.id ≡ true → (id : ℕ)
    → stands_as next (with_record c living) id ≡ stands_as next living id
stands-put next c living f here id = elim (eqb_tells id c.id) [
  | inl e ↦
      (let a : one_of (with_record c living) id ≡ c =
      ap (λ (n : ℕ). one_of (with_record c living) n) e.1 ∙ one_of-with_same c living here in
      let b : one_of living id ≡ one_of living c.id = ap (λ (n : ℕ). one_of living n) e.1 in
      (λ i. let s : Standing = record { id = renamed next id; errors = (a i).errors; own = (a i).own; daughter = (a i).daughter } in s)
      ∙ (λ i. let s : Standing = record { id = renamed next id; errors = f.errors i; own = f.own i; daughter = f.daughter i } in s)
      ∙ sym (λ i. let s : Standing = record { id = renamed next id; errors = (b i).errors; own = (b i).own; daughter = (b i).daughter } in s))
  | inr e ↦
      ap (λ (x : Creature). let s : Standing = record (standing x) { id = renamed next id } in s) (one_of-with_other c living id e.1)
]

-- ---- reaping

pub times_in-index : (xs : List ℕ) (k : ℕ) → k < length xs → 0 < times_in xs (slice_index xs k)
times_in-index [] k h = absurd (omega arith)
times_in-index (x ∷ xs) zero h = grind (arith, nat_tests)
times_in-index (x ∷ xs) (suc k) h = omega (arith, times_in-index xs k (omega arith))

pub without_place-map : {X Y : Type 0} (f : X → Y) (k : ℕ) (xs : List X) → without_place k (map f xs) ≡ map f (without_place k xs)
without_place-map f k [] = refl
without_place-map f zero (x ∷ xs) = refl
without_place-map f (suc k) (x ∷ xs) = ap (λ (l : List _). f x ∷ l) (without_place-map f k xs)

filter-none : (xs : List ℕ) (id : ℕ) → times_in xs id ≡ 0 → filter (λ x. not (x == id)) xs ≡ xs
filter-none [] id h = refl
filter-none (x ∷ xs) id h = grind (arith, nat_tests, filter-none xs id)

pub without_place-filter : (k : ℕ) (xs : List ℕ) → k < length xs → times_in xs (slice_index xs k) ≤ 1
    → without_place k xs ≡ filter (λ x. not (x == slice_index xs k)) xs
without_place-filter k [] h o = absurd (omega arith)
without_place-filter zero (x ∷ xs) h o =
    let one : (x == x) ≡ true = grind (arith, nat_tests) in
    let o' : one_if (x == x) + times_in xs x ≤ 1 = o in
    let o'' : one_if true + times_in xs x ≤ 1 = rw one at o' in
    rw one (sym (filter-none xs x (omega arith)))
without_place-filter (suc k) (x ∷ xs) h o =
    let id : ℕ = slice_index xs k in
    let o' : one_if (x == id) + times_in xs id ≤ 1 = o in
    let there : 0 < times_in xs id = times_in-index xs k (omega arith) in
    let r : without_place k xs ≡ filter (λ x. not (x == id)) xs = without_place-filter k xs (omega arith) (omega arith) in
    let other : (x == id) ≡ false = other_than x id (times_in xs id) o' there in
    rw other (ap (λ (l : List ℕ). x ∷ l) r)
  where
    other_than : (x id n : ℕ) → one_if (x == id) + n ≤ 1 → 0 < n → (x == id) ≡ false
    other_than x id n o h = grind (arith, nat_tests)

pub map-filter-cong : {Y : Type 0} (f g : ℕ → Y) (id : ℕ) → ((x : ℕ) → (x ≡ id → ⊥) → f x ≡ g x) → (xs : List ℕ)
    → map f (filter (λ x. not (x == id)) xs) ≡ map g (filter (λ x. not (x == id)) xs)
map-filter-cong f g id h [] = refl
map-filter-cong f g id h (x ∷ xs) = elim (eqb_tells x id) [
  | inl e ↦ rw (e.0) (map-filter-cong f g id h xs)
  | inr e ↦ rw (e.0) (let a : f x ≡ g x = h x e.1 in let b = map-filter-cong f g id h xs in cc)
]

pub map-cong-in : {Y : Type 0} (f g : ℕ → Y) (ids : List ℕ) → ((x : ℕ) → 0 < times_in ids x → f x ≡ g x) → map f ids ≡ map g ids
map-cong-in f g [] h = refl
map-cong-in f g (x ∷ xs) h =
    let a : f x ≡ g x = h x (grind (arith, nat_tests)) in
    let b : map f xs ≡ map g xs = map-cong-in f g xs (λ y k. h y (omega arith)) in
    cc

-- ---- the one that moves

pub is_standing_of-renamed : (next c d : ℕ) → c < next → c < 2 ^ 63 → c ≡ d → (id : ℕ) → (renamed next id == c) ≡ (id == d)
is_standing_of-renamed next c d h k e id = renamed-is next id c h k ∙ ap (λ (n : ℕ). id == n) e
