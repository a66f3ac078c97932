-- There is no first difference exactly where reads and record agree, and a list differs at the least place.
use Rattle.std.proofs.Common.{◌≡◌, ℕ, suc, ◌+◌, Bool, true, false, List, [], ◌∷◌, refl, sym, ◌∙◌, ap, subst, arith}
use Rattle.std.specs.Prelude.{Some, None, Option, option_map, ◌==◌, if◌then◌else◌, slice_index, slice_get, take, ◌≢◌, ℤ}
use Rattle.std.specs.Bool.{Decides}
use Rattle.std.specs.Option.{option_eq}
use Rattle.std.specs.Ordering.{int_eq}
use Rattle.std.specs.Cmp.Lexicographic.{pointwise}
use Rattle.std.specs.Cmp.Derive.{both_true}
use Rattle.std.proofs.lemmas.Bool.{and_parts}
use Rattle.std.proofs.lemmas.Bool.Decides.{Decides-eqb, Decides-int_eq}
use Rattle.std.proofs.lemmas.Slice.Eq.{slice_eq-Decides}
use Rattle.tierra_model.specs.declared.creatures.Block.{Block}
use Rattle.tierra_model.specs.declared.creatures.Creature.{Creature}
use Rattle.tierra_model.specs.declared.creatures.Standing.{Standing}
use Rattle.tierra_model.specs.declared.history.Stale.TheVariants as stale
use Rattle.tierra_model.specs.Difference.{ListDifference, same_block, same_standing, same_creature, list_difference, or_else, of_front, of_cells, of_free}
use Rattle.tierra_model.specs.Difference.{of_yard, first_difference, DifferenceTells, IsLeast, LeastPlace}
use Rattle.tierra_model.specs.World.{World, front}
use Rattle.tierra_model.specs.FreeList.{free_list}
use Rattle.tierra_model.specs.Yard.{yard}
use Rattle.tierra_model.specs.Reads.{Reads}
use Rattle.tierra_model.specs.Findings.{Agrees, CellsAgree, SameIfSome}

-- ---- the tests decide

decides-block : (a b : Block) → Decides (same_block a b) (a ≡ b)
decides-block a b = (
  (λ h. (let p = and_parts (a.at == b.at) (a.size == b.size) h in
      let e = (Decides-eqb a.at b.at).0 p.0 in let f = (Decides-eqb a.size b.size).0 p.1 in
      (λ i. record { at = e i; size = f i }))),
  (λ e. both_true ((Decides-eqb a.at b.at).1 (ap (λ (x : Block). x.at) e)) ((Decides-eqb a.size b.size).1 (ap (λ (x : Block). x.size) e))),
)

decides-option : {X : Type 0} (same : X → X → Bool) → ((a b : X) → Decides (same a b) (a ≡ b)) → (a b : Option X) → Decides (option_eq same a b) (a ≡ b)
decides-option same d None None = ((λ h. refl), (λ e. refl))
decides-option same d None (Some b) = ((λ h. cc), (λ e. cc))
decides-option same d (Some a) None = ((λ h. cc), (λ e. cc))
decides-option same d (Some a) (Some b) = ((λ h. ap Some ((d a b).0 h)), (λ e. (d a b).1 (let s : a ≡ b = cc in s)))

decides-standing : (a b : Standing) → Decides (same_standing a b) (a ≡ b)
decides-standing a b = (
  (λ h. (
      let p = and_parts _ _ h in let q = and_parts _ _ p.1 in let r = and_parts _ _ q.1 in
      let e = (Decides-eqb a.id b.id).0 p.0 in
      let f = (Decides-eqb a.errors b.errors).0 q.0 in
      let g = (decides-block a.own b.own).0 r.0 in
      let k = (decides-option same_block decides-block a.daughter b.daughter).0 r.1 in
      (λ i. record { id = e i; errors = f i; own = g i; daughter = k i }))),
  (λ e. both_true ((Decides-eqb a.id b.id).1 (ap (λ (x : Standing). x.id) e))
      (both_true ((Decides-eqb a.errors b.errors).1 (ap (λ (x : Standing). x.errors) e))
      (both_true ((decides-block a.own b.own).1 (ap (λ (x : Standing). x.own) e))
      ((decides-option same_block decides-block a.daughter b.daughter).1 (ap (λ (x : Standing). x.daughter) e))))),
)

decides-stack : (a b : List ℤ) → Decides (pointwise int_eq a b) (a ≡ b)
decides-stack a b = slice_eq-Decides Decides-int_eq a b (pointwise int_eq a b) refl

same_creature-is : (a b : Creature) → same_creature a b ≡ true → a ≡ b
same_creature-is a b h =
    let h1 = and_parts _ _ h in let h2 = and_parts _ _ h1.1 in let h3 = and_parts _ _ h2.1 in let h4 = and_parts _ _ h3.1 in
    let h5 = and_parts _ _ h4.1 in let h6 = and_parts _ _ h5.1 in let h7 = and_parts _ _ h6.1 in let h8 = and_parts _ _ h7.1 in
    let h9 = and_parts _ _ h8.1 in let h10 = and_parts _ _ h9.1 in let h11 = and_parts _ _ h10.1 in let h12 = and_parts _ _ h11.1 in
    let h13 = and_parts _ _ h12.1 in let h14 = and_parts _ _ h13.1 in let h15 = and_parts _ _ h14.1 in
    let id = (Decides-eqb a.id b.id).0 h1.0 in
    let own = (decides-block a.own b.own).0 h2.0 in
    let daughter = (decides-option same_block decides-block a.daughter b.daughter).0 h3.0 in
    let moved = (Decides-eqb a.moved b.moved).0 h4.0 in
    let ax = (Decides-int_eq a.ax b.ax).0 h5.0 in
    let bx = (Decides-int_eq a.bx b.bx).0 h6.0 in
    let cx = (Decides-int_eq a.cx b.cx).0 h7.0 in
    let dx = (Decides-int_eq a.dx b.dx).0 h8.0 in
    let ip = (Decides-eqb a.ip b.ip).0 h9.0 in
    let stack = (decides-stack a.stack b.stack).0 h10.0 in
    let sp = (Decides-eqb a.sp b.sp).0 h11.0 in
    let flag = (Decides-eqb a.flag b.flag).0 h12.0 in
    let errors = (Decides-eqb a.errors b.errors).0 h13.0 in
    let genotype = (Decides-eqb a.genotype b.genotype).0 h14.0 in
    let ran = (Decides-eqb a.ran b.ran).0 h15.0 in
    let bred = (Decides-eqb a.bred b.bred).0 h15.1 in
    (λ i. record {
      id = id i;
      own = own i;
      daughter = daughter i;
      moved = moved i;
      ax = ax i;
      bx = bx i;
      cx = cx i;
      dx = dx i;
      ip = ip i;
      stack = stack i;
      sp = sp i;
      flag = flag i;
      errors = errors i;
      genotype = genotype i;
      ran = ran i;
      bred = bred i;
    })

same_creature-self : (a : Creature) → same_creature a a ≡ true
same_creature-self a =
    both_true ((Decides-eqb a.id a.id).1 refl) (both_true ((decides-block a.own a.own).1 refl)
    (both_true ((decides-option same_block decides-block a.daughter a.daughter).1 refl) (both_true ((Decides-eqb a.moved a.moved).1 refl)
    (both_true ((Decides-int_eq a.ax a.ax).1 refl) (both_true ((Decides-int_eq a.bx a.bx).1 refl)
    (both_true ((Decides-int_eq a.cx a.cx).1 refl) (both_true ((Decides-int_eq a.dx a.dx).1 refl)
    (both_true ((Decides-eqb a.ip a.ip).1 refl) (both_true ((decides-stack a.stack a.stack).1 refl)
    (both_true ((Decides-eqb a.sp a.sp).1 refl) (both_true ((Decides-eqb a.flag a.flag).1 refl)
    (both_true ((Decides-eqb a.errors a.errors).1 refl) (both_true ((Decides-eqb a.genotype a.genotype).1 refl)
    (both_true ((Decides-eqb a.ran a.ran).1 refl) ((Decides-eqb a.bred a.bred).1 refl)))))))))))))))

-- ---- lists

list_difference-none : {X : Type 0} (same : X → X → Bool) → ((a b : X) → Decides (same a b) (a ≡ b)) → (k : ℕ) (xs ys : List X)
    → list_difference same k xs ys ≡ None → xs ≡ ys
list_difference-none same d k [] [] h = refl
list_difference-none same d k [] (y ∷ ys) h = cc
list_difference-none same d k (x ∷ xs) [] h = cc
list_difference-none same d k (x ∷ xs) (y ∷ ys) h = go (same x y) refl h (list_difference-none same d (k + 1) xs ys)
  where
    go : (b : Bool) → same x y ≡ b → (if b then list_difference same (k + 1) xs ys else Some (record { place = k; seen = Some x; now = Some y })) ≡ None
        → (list_difference same (k + 1) xs ys ≡ None → xs ≡ ys) → x ∷ xs ≡ y ∷ ys
    go true e h ih = (let a = (d x y).0 e in let r = ih h in λ i. a i ∷ r i)
    go false e h ih = cc

list_difference-self : {X : Type 0} (same : X → X → Bool) → ((a b : X) → Decides (same a b) (a ≡ b)) → (k : ℕ) (xs : List X)
    → list_difference same k xs xs ≡ None
list_difference-self same d k [] = refl
list_difference-self same d k (x ∷ xs) =
    ap (λ (b : Bool). if b then list_difference same (k + 1) xs xs else Some (record { place = k; seen = Some x; now = Some x })) ((d x x).1 refl)
    ∙ list_difference-self same d (k + 1) xs

-- the place found is the least at which the lists differ
record IsLeastFrom {X : Type 0} (k : ℕ) (xs ys : List X) (d : ListDifference X) : Type 0 where
  steps : ℕ
  place : d.place ≡ k + steps
  before : take steps xs ≡ take steps ys
  seen_there : d.seen ≡ slice_get xs steps
  now_there : d.now ≡ slice_get ys steps
  differs : d.seen ≢ d.now

list_difference-from : {X : Type 0} (same : X → X → Bool) → ((a b : X) → Decides (same a b) (a ≡ b)) → (k : ℕ) (xs ys : List X) (d : ListDifference X)
    → list_difference same k xs ys ≡ Some d → IsLeastFrom k xs ys d
list_difference-from same e k [] [] d h = cc
list_difference-from same e k [] (y ∷ ys) d h =
    let is : record { place = k; seen = None; now = Some y } ≡ d = cc in
    subst (IsLeastFrom k [] (y ∷ ys)) is (record { steps = 0; place = omega arith; before = refl; seen_there = refl; now_there = refl; differs = λ f. cc })
list_difference-from same e k (x ∷ xs) [] d h =
    let is : record { place = k; seen = Some x; now = None } ≡ d = cc in
    subst (IsLeastFrom k (x ∷ xs) []) is (record { steps = 0; place = omega arith; before = refl; seen_there = refl; now_there = refl; differs = λ f. cc })
list_difference-from same e k (x ∷ xs) (y ∷ ys) d h = go (same x y) refl h (list_difference-from same e (k + 1) xs ys d)
  where
    go : (b : Bool) → same x y ≡ b → (if b then list_difference same (k + 1) xs ys else Some (record { place = k; seen = Some x; now = Some y })) ≡ Some d
        → (list_difference same (k + 1) xs ys ≡ Some d → IsLeastFrom (k + 1) xs ys d) → IsLeastFrom k (x ∷ xs) (y ∷ ys) d
    go true t h ih =
        let r = ih h in
        let a : x ≡ y = (e x y).0 t in
        record {
          steps = suc r.steps;
          place = omega (arith, r.place);
          before = (λ i. a i ∷ r.before i);
          seen_there = r.seen_there;
          now_there = r.now_there;
          differs = r.differs;
        }
    go false t h ih =
        let is : record { place = k; seen = Some x; now = Some y } ≡ d = cc in
        let other : x ≢ y = λ f. (let u : true ≡ false = sym ((e x y).1 f) ∙ t in cc) in
        subst (IsLeastFrom k (x ∷ xs) (y ∷ ys)) is (record {
          steps = 0;
          place = omega arith;
          before = refl;
          seen_there = refl;
          now_there = refl;
          differs = λ f. other (let s : x ≡ y = cc in s);
        })

list_difference-least : {X : Type 0} (same : X → X → Bool) → ((a b : X) → Decides (same a b) (a ≡ b)) → (xs ys : List X) (d : ListDifference X)
    → list_difference same 0 xs ys ≡ Some d → IsLeast xs ys d
list_difference-least same e xs ys d h =
    let r = list_difference-from same e 0 xs ys d h in
    let at : d.place ≡ r.steps = omega (arith, r.place) in
    record {
      before = subst (λ j. take j xs ≡ take j ys) (sym at) r.before;
      seen_there = subst (λ j. d.seen ≡ slice_get xs j) (sym at) r.seen_there;
      now_there = subst (λ j. d.now ≡ slice_get ys j) (sym at) r.now_there;
      differs = r.differs;
    }

pub least_place : LeastPlace
least_place = (list_difference-least same_block decides-block, list_difference-least same_standing decides-standing)

-- ---- each part

option_map-none : {X Y : Type 0} (f : X → Y) (o : Option X) → option_map f o ≡ None → o ≡ None
option_map-none f None h = refl
option_map-none f (Some x) h = cc

of_front-agrees : (c d : Creature) → of_front c d ≡ None → d ≡ c
of_front-agrees c d h = go (c.id == d.id) (same_creature c d) refl h
  where
    go : (a b : Bool) → same_creature c d ≡ b → (if a then (if b then None else Some stale.Body) else Some (stale.Front c.id d.id)) ≡ None → d ≡ c
    go true true e h = sym (same_creature-is c d e)
    go true false e h = cc
    go false b e h = cc

of_front-none : (c : Creature) → of_front c c ≡ None
of_front-none c =
    ap (λ (b : Bool). if b then (if same_creature c c then None else Some stale.Body) else Some (stale.Front c.id c.id)) ((Decides-eqb c.id c.id).1 refl)
    ∙ ap (λ (b : Bool). if b then None else Some stale.Body) (same_creature-self c)

pub of_cells-agrees : (cs : List (ℕ × ℕ)) (w : World) → of_cells cs w.soup ≡ None → CellsAgree cs w
of_cells-agrees [] w h = tt
of_cells-agrees (c ∷ cs) w h = go (slice_index w.soup c.0 == c.1) refl h (of_cells-agrees cs w)
  where
    go : (b : Bool) → (slice_index w.soup c.0 == c.1) ≡ b → (if b then of_cells cs w.soup else Some (stale.Cell c.0 c.1 (slice_index w.soup c.0))) ≡ None
        → (of_cells cs w.soup ≡ None → CellsAgree cs w) → CellsAgree (c ∷ cs) w
    go true e h ih = ((Decides-eqb (slice_index w.soup c.0) c.1).0 e, ih h)
    go false e h ih = cc

of_cells-none : (cs : List (ℕ × ℕ)) (w : World) → CellsAgree cs w → of_cells cs w.soup ≡ None
of_cells-none [] w h = refl
of_cells-none (c ∷ cs) w h =
    ap (λ (b : Bool). if b then of_cells cs w.soup else Some (stale.Cell c.0 c.1 (slice_index w.soup c.0))) ((Decides-eqb (slice_index w.soup c.0) c.1).1 h.0)
    ∙ of_cells-none cs w h.1

of_free-agrees : (o : Option (List Block)) (now : List Block) → of_free o now ≡ None → SameIfSome o now
of_free-agrees None now h = tt
of_free-agrees (Some seen) now h =
    list_difference-none same_block decides-block 0 seen now (option_map-none (λ d. stale.Free d.place d.seen d.now) (list_difference same_block 0 seen now) h)

of_free-none : (o : Option (List Block)) (now : List Block) → SameIfSome o now → of_free o now ≡ None
of_free-none None now h = refl
of_free-none (Some seen) now h =
    subst (λ l. of_free (Some seen) l ≡ None) h (ap (λ (o : Option (ListDifference Block)). option_map (λ d. stale.Free d.place d.seen d.now) o)
    (list_difference-self same_block decides-block 0 seen))

of_yard-agrees : (o : Option (List Standing)) (now : List Standing) → of_yard o now ≡ None → SameIfSome o now
of_yard-agrees None now h = tt
of_yard-agrees (Some seen) now h =
    list_difference-none same_standing decides-standing 0 seen now
    (option_map-none (λ d. stale.Yard d.place d.seen d.now) (list_difference same_standing 0 seen now) h)

of_yard-none : (o : Option (List Standing)) (now : List Standing) → SameIfSome o now → of_yard o now ≡ None
of_yard-none None now h = refl
of_yard-none (Some seen) now h =
    subst (λ l. of_yard (Some seen) l ≡ None) h (ap (λ (o : Option (ListDifference Standing)). option_map (λ d. stale.Yard d.place d.seen d.now) o)
    (list_difference-self same_standing decides-standing 0 seen))

or_else-none : {X : Type 0} (a b : Option X) → or_else a b ≡ None → (a ≡ None) × (b ≡ None)
or_else-none None b h = (refl, h)
or_else-none (Some x) b h = cc

-- ---- the law

first_difference-agrees : (reads : Reads) (c : Creature) (w : World) → first_difference reads c w ≡ None → Agrees reads c w
unfolding first_difference
first_difference-agrees reads c w h =
    let a = or_else-none _ _ h in let b = or_else-none _ _ a.1 in let d = or_else-none _ _ b.1 in
    record {
      front = of_front-agrees c (front w) a.0;
      cells = of_cells-agrees reads.cells w b.0;
      free = of_free-agrees reads.free (free_list w) d.0;
      yard = of_yard-agrees reads.yard (yard w) d.1;
    }

first_difference-none : (reads : Reads) (c : Creature) (w : World) → Agrees reads c w → first_difference reads c w ≡ None
unfolding first_difference
first_difference-none reads c w a =
    let f : of_front c (front w) ≡ None = subst (λ d. of_front c d ≡ None) (sym a.front) (of_front-none c) in
    let g = of_cells-none reads.cells w a.cells in
    let h = of_free-none reads.free (free_list w) a.free in
    let k = of_yard-none reads.yard (yard w) a.yard in
    λ i. or_else (f i) (or_else (g i) (or_else (h i) (k i)))

pub difference_tells : DifferenceTells
difference_tells reads c w = (first_difference-agrees reads c w, first_difference-none reads c w)
