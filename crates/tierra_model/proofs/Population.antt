-- A world while a quantum runs, but for its genotypes and what it saved: lists, blocks, processors and counts, and what
-- each event may add to the counts.
use Rattle.std.proofs.Common.{◌≡◌, ℕ, suc, ◌+◌, ◌<◌, ◌≤◌, true, false, List, [], ◌∷◌, ◌++◌, refl, sym, ◌∙◌, ap, subst, arith, inl, inr, length, length-append}
use Rattle.std.specs.Prelude.{Some, None, Option, IfSome, IsSome, not, filter, ◌==◌, slice_index, slice_range}
use Rattle.std.proofs.lemmas.List.{length-set}
use Rattle.std.proofs.lemmas.Bool.Decides.{nat_tests, eqb_tells}
use Rattle.tierra_model.specs.declared.creatures.Block.{Block}
use Rattle.tierra_model.specs.declared.creatures.Creature.{Creature}
use Rattle.tierra_model.specs.declared.events.Event.{Event}
use Rattle.tierra_model.specs.declared.events.Event.TheVariants as event
use Rattle.tierra_model.specs.Counting.{sum_of, one_if, times_in}
use Rattle.tierra_model.specs.Ranges.{IsBlock}
use Rattle.tierra_model.specs.Living.{with_record, without, newborn, ids_of}
use Rattle.tierra_model.specs.World.{World, Genotype, front, put, first_of}
use Rattle.tierra_model.specs.Sound.{Ordered}
use Rattle.tierra_model.specs.Individuals.{with_individual, genotypes_at_birth}
use Rattle.tierra_model.specs.Events.{apply_event, record_after, with_birth, with_death}
use Rattle.tierra_model.specs.Replay.{CanHappen}
use Rattle.tierra_model.proofs.Owners.{ids_of-with, ids_of-append, ids_of-without, times_in-append, times_in-filter_same, times_in-filter_other}
use Rattle.tierra_model.proofs.Owners.{times_in-without, sum_of-without}
use Rattle.tierra_model.proofs.Commutes.{HasFront}
use Rattle.tierra_model.proofs.EachOnce.{EachOnce}
use Rattle.tierra_model.proofs.EventsKeep.{front-event, each_once-event, reaped-is_here}
use Rattle.tierra_model.specs.SceneRun.{births_of}
use Rattle.tierra_model.proofs.BirthOrder.{ordered-filter, ordered-push}
use Rattle.tierra_model.proofs.Each.{Each, each-map, each-append, each-with, each-without, each-one}

-- one creature of a world of n cells, where errors and bred are at most e, and moved and ran at most m
pub record InBounds (n e m : ℕ) (c : Creature) : Type 0 where
  pub own : IsBlock n c.own
  pub daughter : IfSome c.daughter (IsBlock n)
  pub ip : c.ip < n
  pub sp : c.sp < 10
  pub errors : c.errors ≤ e
  pub moved : c.moved ≤ m
  pub ran : c.ran ≤ m
  pub bred : c.bred ≤ e

-- Each creature is in its bounds, and no birth number is above b.
pub record Population (n e m b : ℕ) (w : World) : Type 0 where
  pub has_front : HasFront w
  pub each_once : EachOnce w
  pub size : w.settings.soup_size ≡ n
  pub cells : length w.soup ≡ n
  pub each : Each (InBounds n e m) w.living
  pub slicer : (id : ℕ) → times_in w.slicer id ≡ times_in (ids_of w.living) id
  pub order : Ordered 1 (ids_of w.living)
  pub zero : times_in (ids_of w.living) 0 ≡ 0
  pub count : length w.living + w.deaths + 1 ≡ w.next_birth
  pub births : w.births < w.next_birth
  pub next_birth : w.next_birth ≤ b

-- how much an event may raise a count of errors or of daughters
abbrev pub errors_of : Event → ℕ
errors_of event.Err = 1
errors_of (event.Divide ran moved) = 1
errors_of _ = 0

pub front-in_bounds : (n e m b : ℕ) (w : World) → Population n e m b w → InBounds n e m (front w)
front-in_bounds n e m b w p = each-one (InBounds n e m) w.living (first_of w.slicer) p.has_front.here p.each

each-weaker : (n e m e' m' : ℕ) (xs : List Creature) → e ≤ e' → m ≤ m' → Each (InBounds n e m) xs → Each (InBounds n e' m') xs
each-weaker n e m e' m' xs he hm h = each-map (InBounds n e m) (InBounds n e' m') (λ x f. record {
  own = f.own;
  daughter = f.daughter;
  ip = f.ip;
  sp = f.sp;
  errors = omega (arith, f.errors);
  moved = omega (arith, f.moved);
  ran = omega (arith, f.ran);
  bred = omega (arith, f.bred);
}) xs h

pub population-weaker : (n e m b e' m' b' : ℕ) (w : World) → e ≤ e' → m ≤ m' → b ≤ b' → Population n e m b w → Population n e' m' b' w
population-weaker n e m b e' m' b' w he hm hb p =
    record {
      has_front = p.has_front;
      each_once = p.each_once;
      size = p.size;
      cells = p.cells;
      each = each-weaker n e m e' m' w.living he hm p.each;
      slicer = p.slicer;
      order = p.order;
      zero = p.zero;
      count = p.count;
      births = p.births;
      next_birth = omega (arith, p.next_birth);
    }

-- ---- a record in the place of the front's

length-with : (c : Creature) (xs : List Creature) → length (with_record c xs) ≡ length xs
length-with c [] = refl
length-with c (x ∷ xs) = ap (λ (n : ℕ). suc n) (length-with c xs)

-- also with another reaper queue
population-with : (d : Creature) (reaper : List ℕ) (n e m b e' m' b' : ℕ) (w : World) → Population n e m b w
    → HasFront (record (put d w) { reaper = reaper }) → EachOnce (record (put d w) { reaper = reaper }) → e ≤ e' → m ≤ m' → b ≤ b' → InBounds n e' m' d
    → Population n e' m' b' (record (put d w) { reaper = reaper })
population-with d reaper n e m b e' m' b' w p l t he hm hb f =
    record {
      has_front = l;
      each_once = t;
      size = p.size;
      cells = p.cells;
      each = each-with (InBounds n e' m') d w.living f (each-weaker n e m e' m' w.living he hm p.each);
      slicer = λ id. p.slicer id ∙ sym (ap (λ (l : List ℕ). times_in l id) (ids_of-with d w.living));
      order = subst (Ordered 1) (sym (ids_of-with d w.living)) p.order;
      zero = ap (λ (l : List ℕ). times_in l 0) (ids_of-with d w.living) ∙ p.zero;
      count = ap (λ (k : ℕ). k + w.deaths + 1) (length-with d w.living) ∙ p.count;
      births = p.births;
      next_birth = omega (arith, p.next_birth);
    }

pub population-put : (d : Creature) (n e m b m' : ℕ) (w : World) → Population n e m b w → HasFront (put d w) → EachOnce (put d w) → m ≤ m' → InBounds n e m' d
    → Population n e m' b (put d w)
population-put d n e m b m' w p l t hm f = population-with d w.reaper n e m b e m' b w p l t (omega arith) hm (omega arith) f

-- ---- births and deaths

sum_of-ones : (xs : List Creature) → sum_of (λ _. 1) xs ≡ length xs
sum_of-ones [] = refl
sum_of-ones (x ∷ xs) = omega (arith, sum_of-ones xs)

nonzero : (n : ℕ) → 0 < n → (n == 0) ≡ false
nonzero n h = grind (arith, nat_tests)

in_bounds-newborn : (n e m id g : ℕ) (b : Block) → IsBlock n b → InBounds n e m (newborn id b g)
in_bounds-newborn n e m id g b h =
    record {
      own = h;
      daughter = tt;
      ip = omega (arith, h.0, h.2);
      sp = omega arith;
      errors = omega arith;
      moved = omega arith;
      ran = omega arith;
      bred = omega arith;
    }

abbrev Divided : ℕ → ℕ → List Genotype → World → Option Block → World
Divided ran moved known w d = put (record_after (event.Divide ran moved) (front w)) (with_birth known d (front w).genotype w)

population-divide : (n e m b e' b' ran moved : ℕ) (known : List Genotype) (w : World) (d : Option Block) → Population n e m b w → e + 1 ≤ e' → b + 1 ≤ b'
    → IfSome d (IsBlock n) → IsSome d → HasFront (Divided ran moved known w d) → EachOnce (Divided ran moved known w d)
    → Population n e' m b' (Divided ran moved known w d)
population-divide n e m b e' b' ran moved known w None p he hb h k l t = (let z : false ≡ true = k in cc)
population-divide n e m b e' b' ran moved known w (Some x) p he hb h k l t =
    let g : ℕ = (with_individual known (slice_range w.soup x.at (x.at + x.size)) (Some (front w).genotype) (w.quanta + 1)).1 in
    let nb : Creature = newborn w.next_birth x g in
    let d : Creature = record_after (event.Divide ran moved) (front w) in
    let f = front-in_bounds n e m b w p in
    let ids : ids_of (with_record d (w.living ++ nb ∷ [])) ≡ ids_of w.living ++ w.next_birth ∷ [] =
    ids_of-with d (w.living ++ nb ∷ []) ∙ ids_of-append w.living (nb ∷ []) in
    let none : (w.next_birth == 0) ≡ false = nonzero w.next_birth (omega (arith, p.count)) in
    record {
      has_front = l;
      each_once = t;
      size = p.size;
      cells = p.cells;
      each = each-with (InBounds n e' m) d (w.living ++ nb ∷ [])
          (record {
            own = f.own;
            daughter = tt;
            ip = f.ip;
            sp = f.sp;
            errors = omega (arith, f.errors);
            moved = omega arith;
            ran = omega arith;
            bred = omega (arith, f.bred);
          })
          (each-append (InBounds n e' m) w.living (nb ∷ []) (each-weaker n e m e' m w.living (omega arith) (omega arith) p.each)
          (in_bounds-newborn n e' m w.next_birth g x h, tt));
      slicer = λ id. times_in-append w.slicer (w.next_birth ∷ []) id ∙ ap (λ (q : ℕ). q + times_in (w.next_birth ∷ []) id) (p.slicer id)
          ∙ sym (ap (λ (y : List ℕ). times_in y id) ids ∙ times_in-append (ids_of w.living) (w.next_birth ∷ []) id);
      order = subst (Ordered 1) (sym ids) (ordered-push 1 w.next_birth (ids_of w.living) (omega (arith, p.count)) p.each_once.fresh p.order);
      zero = ap (λ (y : List ℕ). times_in y 0) ids ∙ times_in-append (ids_of w.living) (w.next_birth ∷ []) 0 ∙ omega (arith, p.zero, ap one_if none);
      count = omega (arith, length-with d (w.living ++ nb ∷ []), length-append w.living (nb ∷ []), p.count);
      births = omega (arith, p.births);
      next_birth = omega (arith, p.next_birth);
    }

population-reap : (place n e m b : ℕ) (w : World) → Population n e m b w → place < length w.reaper
    → HasFront (with_death (slice_index w.reaper place) w) → EachOnce (with_death (slice_index w.reaper place) w)
    → Population n e m b (with_death (slice_index w.reaper place) w)
population-reap place n e m b w p k l t =
    let id : ℕ = slice_index w.reaper place in
    let one : length (without id w.living) + 1 ≡ length w.living =
    omega (
      arith,
      sum_of-without (λ _. 1) w.living id (reaped-is_here w place p.each_once k) (p.each_once.once id),
      sum_of-ones w.living,
      sum_of-ones
          (without id w.living),
    ) in
    record {
      has_front = l;
      each_once = t;
      size = p.size;
      cells = p.cells;
      each = each-without (InBounds n e m) id w.living p.each;
      slicer = times_in-without id w.slicer w.living p.slicer;
      order = subst (Ordered 1) (sym (ids_of-without id w.living)) (ordered-filter 1 id (ids_of w.living) p.order);
      zero = ap (λ (x : List ℕ). times_in x 0) (ids_of-without id w.living) ∙ elim (eqb_tells 0 id) [
        | inl a ↦ subst (λ q. times_in (filter (λ x. not (x == id)) (ids_of w.living)) q ≡ 0) (sym a.1) (times_in-filter_same (ids_of w.living) id)
        | inr a ↦ times_in-filter_other (ids_of w.living) id 0 a.1 ∙ p.zero
      ];
      count = omega (arith, one, p.count);
      births = p.births;
      next_birth = p.next_birth;
    }

-- ---- an event

pub population-event : (v : Event) (n e m b e' b' : ℕ) (w : World) → Population n e m b w → CanHappen w v → e + errors_of v ≤ e' → b + births_of v ≤ b'
    → Population n e' m b' (apply_event w v)
unfolding apply_event
population-event (event.Write at value) n e m b e' b' w p k he hb =
    let v : Event = event.Write at value in
    population-weaker n e m b e' m b' (apply_event w v) (omega arith) (omega arith) (omega arith) (record {
      has_front = (front-event w v p.has_front k).has_front;
      each_once = each_once-event w v p.has_front p.each_once k;
      size = p.size;
      cells = length-set w.soup at value ∙ p.cells;
      each = p.each;
      slicer = p.slicer;
      order = p.order;
      zero = p.zero;
      count = p.count;
      births = p.births;
      next_birth = p.next_birth;
    })
population-event event.Good n e m b e' b' w p k he hb =
    let v : Event = event.Good in
    population-weaker n e m b e' m b' (apply_event w v) (omega arith) (omega arith) (omega arith) (record {
      has_front = (front-event w v p.has_front k).has_front;
      each_once = each_once-event w v p.has_front p.each_once k;
      size = p.size;
      cells = p.cells;
      each = p.each;
      slicer = p.slicer;
      order = p.order;
      zero = p.zero;
      count = p.count;
      births = p.births;
      next_birth = p.next_birth;
    })
population-event event.Err n e m b e' b' w p k he hb =
    let v : Event = event.Err in
    let f = front-in_bounds n e m b w p in
    population-with (record_after v (front w)) (apply_event w v).reaper n e m b e' m b' w p (front-event w v p.has_front k).has_front
    (each_once-event w v p.has_front p.each_once k)
    (omega arith) (omega arith) (omega arith)
    (record {
      own = f.own;
      daughter = f.daughter;
      ip = f.ip;
      sp = f.sp;
      errors = omega (arith, f.errors);
      moved = f.moved;
      ran = f.ran;
      bred = omega (arith, f.bred);
    })
population-event event.GiveUp n e m b e' b' w p k he hb =
    let v : Event = event.GiveUp in
    let f = front-in_bounds n e m b w p in
    population-with (record_after v (front w)) w.reaper n e m b e' m b' w p (front-event w v p.has_front k).has_front
    (each_once-event w v p.has_front p.each_once k)
    (omega arith) (omega arith) (omega arith)
    (record {
      own = f.own;
      daughter = tt;
      ip = f.ip;
      sp = f.sp;
      errors = omega (arith, f.errors);
      moved = omega arith;
      ran = f.ran;
      bred = omega (arith, f.bred);
    })
population-event (event.Mal at size) n e m b e' b' w p k he hb =
    let v : Event = event.Mal at size in
    let f = front-in_bounds n e m b w p in
    population-with (record_after v (front w)) w.reaper n e m b e' m b' w p (front-event w v p.has_front k).has_front
    (each_once-event w v p.has_front p.each_once k)
    (omega arith) (omega arith) (omega arith) (record {
      own = f.own;
      daughter = subst (λ j. IsBlock j (record { at = at; size = size })) p.size k.1;
      ip = f.ip;
      sp = f.sp;
      errors = omega (arith, f.errors);
      moved = omega arith;
      ran = f.ran;
      bred = omega (arith, f.bred);
    })
population-event (event.Reap place) n e m b e' b' w p k he hb =
    let v : Event = event.Reap place in
    population-weaker n e m b e' m b' (apply_event w v) (omega arith) (omega arith) (omega arith)
    (population-reap place n e m b w p k.0 (front-event w v p.has_front k).has_front (each_once-event w v p.has_front p.each_once k))
population-event (event.Divide ran moved) n e m b e' b' w p k he hb =
    let v : Event = event.Divide ran moved in
    population-divide n e m b e' b' ran moved (genotypes_at_birth (front w) ran moved w.genotypes) w (front w).daughter p he hb
    (front-in_bounds n e m b w p).daughter k.0 (front-event w v p.has_front k).has_front (each_once-event w v p.has_front p.each_once k)
