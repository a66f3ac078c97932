-- Each creature is in the reaper queue once, no number to come is taken, and each cell has one owner at most: as records are
-- put in, and creatures come and go.
use Rattle.std.proofs.Common.{◌≡◌, ℕ, ◌+◌, ◌<◌, ◌≤◌, true, List, [], ◌∷◌, ◌++◌, refl, sym, ◌∙◌, ap, subst, arith, inl, inr, length, length-append}
use Rattle.std.specs.Prelude.{Some, None, Option, unwrap_or, ◌==◌, slice_index, slice_range}
use Rattle.std.proofs.lemmas.Bool.Decides.{eqb_tells}
use Rattle.tierra_model.specs.declared.creatures.Block.{Block}
use Rattle.tierra_model.specs.declared.creatures.Creature.{Creature}
use Rattle.tierra_model.specs.declared.events.Event.{Event}
use Rattle.tierra_model.specs.declared.events.Event.TheVariants as event
use Rattle.tierra_model.specs.Counting.{one_if, times_in}
use Rattle.tierra_model.specs.Blocks.{is_in, is_in_daughter}
use Rattle.tierra_model.specs.Living.{one_of, with_record, newborn, nobody, ids_of}
use Rattle.tierra_model.specs.World.{World, Genotype, front, first_of}
use Rattle.tierra_model.specs.Sound.{owners, owners_of}
use Rattle.tierra_model.specs.Individuals.{with_individual, genotypes_at_birth}
use Rattle.tierra_model.specs.Events.{apply_event, record_after, with_birth, with_death, with_creature}
use Rattle.tierra_model.proofs.Living.{is_here, find-append, is_here-append}
use Rattle.tierra_model.proofs.Owners.{sum_of-with, sum_of-without, sum_of-append, ids_of-with, ids_of-without, ids_of-append, times_in-append}
use Rattle.tierra_model.proofs.Owners.{times_in-filter_same, times_in-filter_other, times_in-without}
use Rattle.tierra_model.proofs.Commutes.{HasFront, front-id, put_after, record_after-id}

pub record EachOnce (w : World) : Type 0 where
  pub once : (id : ℕ) → times_in (ids_of w.living) id ≤ 1
  pub reaper : (id : ℕ) → times_in w.reaper id ≡ times_in (ids_of w.living) id
  pub fresh : (id : ℕ) → w.next_birth ≤ id → times_in (ids_of w.living) id ≡ 0
  pub apart : (p : ℕ) → owners w.living p ≤ 1

-- ---- who owns a cell

-- a record put in the place of the front's
pub owners-put : (c : Creature) (v : World) (p : ℕ) → HasFront v → ((id : ℕ) → times_in (ids_of v.living) id ≤ 1) → c.id ≡ first_of v.slicer
    → owners (with_record c v.living) p + owners_of (front v) p ≡ owners v.living p + owners_of c p
owners-put c v p l once same =
    subst (λ n. owners (with_record c v.living) p + owners_of (one_of v.living n) p ≡ owners v.living p + owners_of c p) same
    (sum_of-with (λ d. owners_of d p) c v.living (rw same l.here) (once c.id))

-- an event that marks the record alone
pub owners-put_after : (e : Event) (w : World) (p : ℕ) → HasFront w → EachOnce w
    → owners (put_after e w).living p + owners_of (front w) p ≡ owners w.living p + owners_of (record_after e (front w)) p
owners-put_after e w p l t = owners-put (record_after e (front w)) w p l t.once (record_after-id e (front w) ∙ front-id w l)

pub front-with_birth : (known : List Genotype) (b : Option Block) (mother : ℕ) (w : World) → HasFront w
    → (first_of (with_birth known b mother w).slicer ≡ first_of w.slicer) × (front (with_birth known b mother w) ≡ front w)
    × HasFront (with_birth known b mother w)
front-with_birth known None mother w l = (refl, refl, l)
front-with_birth known (Some b) mother w l =
    let first : slice_index (w.slicer ++ w.next_birth ∷ []) 0 ≡ slice_index w.slicer 0 = first-append w.slicer (w.next_birth ∷ []) l.line in
    let k : ℕ = (with_individual known (slice_range w.soup b.at (b.at + b.size)) (Some mother) (w.quanta + 1)).1 in (
      first,
      ap (λ (n : ℕ). one_of (w.living ++ newborn w.next_birth b k ∷ []) n) first
          ∙ ap (λ (o : Option Creature). unwrap_or o nobody) (find-append w.living (newborn w.next_birth b k ∷ []) (first_of w.slicer) l.here),
      record {
        line = omega (arith, length-append w.slicer (w.next_birth ∷ []));
        here = rw (first) (is_here-append w.living (newborn w.next_birth b k ∷ []) (first_of w.slicer) l.here);
      },
    )
  where
    first-append : (xs ys : List ℕ) → 0 < length xs → slice_index (xs ++ ys) 0 ≡ slice_index xs 0
    first-append [] ys h = absurd (omega arith)
    first-append (x ∷ xs) ys h = refl

pub owners-with_birth : (known : List Genotype) (b : Block) (mother : ℕ) (w : World) (p : ℕ)
    → owners (with_birth known (Some b) mother w).living p ≡ owners w.living p + one_if (is_in b p)
owners-with_birth known b mother w p =
    let k : ℕ = (with_individual known (slice_range w.soup b.at (b.at + b.size)) (Some mother) (w.quanta + 1)).1 in
    omega (arith, sum_of-append (λ d. owners_of d p) w.living (newborn w.next_birth b k ∷ []))

-- ---- what is kept

pub each_once-put_after : (e : Event) (w : World) → HasFront w → EachOnce w → ((p : ℕ) → owners (put_after e w).living p ≤ 1) → EachOnce (put_after e w)
each_once-put_after e w l t a =
    let c : Creature = record_after e (front w) in
    record {
      once = λ id. rw (ids_of-with c w.living) (t.once id);
      reaper = λ id. rw (ids_of-with c w.living) (t.reaper id);
      fresh = λ id h. rw (ids_of-with c w.living) (t.fresh id h);
      apart = a;
    }

pub each_once-with_creature : (known : List Genotype) (b : Block) (code : List ℕ) (parent : Option ℕ) (q : ℕ) (w : World)
    → ((id : ℕ) → times_in (ids_of w.living) id ≤ 1)
    → ((id : ℕ) → times_in w.reaper id ≡ times_in (ids_of w.living) id)
    → ((id : ℕ) → w.next_birth ≤ id → times_in (ids_of w.living) id ≡ 0)
    → ((id : ℕ) → times_in (ids_of (with_creature known b code parent q w).living) id ≤ 1)
    × ((id : ℕ) → times_in (with_creature known b code parent q w).reaper id ≡ times_in (ids_of (with_creature known b code parent q w).living) id)
    × ((id : ℕ) → (with_creature known b code parent q w).next_birth ≤ id → times_in (ids_of (with_creature known b code parent q w).living) id ≡ 0)
each_once-with_creature known b code parent q w once reaper fresh =
    let k : ℕ = (with_individual known code parent q).1 in
    let ids : ids_of (w.living ++ newborn w.next_birth b k ∷ []) ≡ ids_of w.living ++ w.next_birth ∷ [] =
    ids_of-append w.living (newborn w.next_birth b k ∷ []) in
    let count : (id : ℕ) → times_in (ids_of w.living ++ w.next_birth ∷ []) id ≡ times_in (ids_of w.living) id + one_if (w.next_birth == id)
    = λ id. times_in-append (ids_of w.living) (w.next_birth ∷ []) id ∙ omega arith in (
      (λ id. rw ids (rw (count id) (elim (eqb_tells w.next_birth id) [
        | inl e ↦ rw (e.0) (omega (arith, fresh id (omega (arith, e.1))))
        | inr e ↦ rw (e.0) (omega (arith, once id))
      ]))),
      (λ id. rw ids (rw (count id) (times_in-append w.reaper (w.next_birth ∷ []) id ∙ omega (arith, reaper id)))),
      (λ id h. rw ids (rw (count id) (elim (eqb_tells w.next_birth id) [
        | inl e ↦ absurd (omega (arith, e.1))
        | inr e ↦ rw (e.0) (omega (arith, fresh id (omega arith)))
      ]))),
    )

pub each_once-with_birth : (known : List Genotype) (b : Option Block) (mother : ℕ) (w : World) → HasFront w → EachOnce w
    → ((id : ℕ) → times_in (ids_of (with_birth known b mother w).living) id ≤ 1)
    × ((id : ℕ) → times_in (with_birth known b mother w).reaper id ≡ times_in (ids_of (with_birth known b mother w).living) id)
    × ((id : ℕ) → (with_birth known b mother w).next_birth ≤ id → times_in (ids_of (with_birth known b mother w).living) id ≡ 0)
each_once-with_birth known None mother w l t = (t.once, t.reaper, t.fresh)
each_once-with_birth known (Some b) mother w l t =
    each_once-with_creature known b (slice_range w.soup b.at (b.at + b.size)) (Some mother) (w.quanta + 1) w t.once t.reaper t.fresh

-- the newborn's block is its mother's daughter block no more
pub owners-divide : (ran moved : ℕ) (w : World) (p : ℕ) → HasFront w → EachOnce w → owners (apply_event w (event.Divide ran moved)).living p ≡ owners w.living p
unfolding apply_event
owners-divide ran moved w p l t = go (front w).daughter refl
  where
    c : Creature
    c = record_after (event.Divide ran moved) (front w)

    go : (d : Option Block) → (front w).daughter ≡ d → owners
        (with_record c (with_birth (genotypes_at_birth (front w) ran moved w.genotypes) d (front w).genotype w).living) p ≡ owners w.living p
    go None e =
        let own : one_if (is_in_daughter (front w).daughter p) ≡ 0 = ap (λ (x : Option Block). one_if (is_in_daughter x p)) e in
        omega (arith, owners-put c w p l t.once (front-id w l))
    go (Some b) e =
        let v : World = with_birth (genotypes_at_birth (front w) ran moved w.genotypes) (Some b) (front w).genotype w in
        let born = front-with_birth (genotypes_at_birth (front w) ran moved w.genotypes) (Some b) (front w).genotype w l in
        let own : one_if (is_in_daughter (front w).daughter p) ≡ one_if (is_in b p) = ap (λ (x : Option Block). one_if (is_in_daughter x p)) e in
        let put : owners (with_record c v.living) p + owners_of (front v) p ≡ owners v.living p + owners_of c p
        = owners-put c v p born.2 (each_once-with_birth (genotypes_at_birth (front w) ran moved w.genotypes) (Some b) (front w).genotype w l t).0
        (front-id w l ∙ sym born.0) in
        let same : owners_of (front v) p ≡ owners_of (front w) p = ap (λ (x : Creature). owners_of x p) born.1 in
        omega (arith, owners-with_birth (genotypes_at_birth (front w) ran moved w.genotypes) b (front w).genotype w p, put, same, own)

pub owners-reap : (w : World) (id p : ℕ) → EachOnce w → is_here w.living id ≡ true
    → owners (with_death id w).living p + owners_of (one_of w.living id) p ≡ owners w.living p
owners-reap w id p t h = sum_of-without (λ d. owners_of d p) w.living id h (t.once id)

pub each_once-with_death : (w : World) (id : ℕ) → EachOnce w → is_here w.living id ≡ true → EachOnce (with_death id w)
each_once-with_death w id t h =
    record {
      once = λ k. rw (ids_of-without id w.living) (elim (eqb_tells k id) [
        | inl e ↦ rw (e.1) (rw (times_in-filter_same (ids_of w.living) id) (omega arith))
        | inr e ↦ rw (times_in-filter_other (ids_of w.living) id k e.1) (t.once k)
      ]);
      reaper = times_in-without id w.reaper w.living t.reaper;
      fresh = λ k f. rw (ids_of-without id w.living) (elim (eqb_tells k id) [
        | inl e ↦ rw (e.1) (times_in-filter_same (ids_of w.living) id)
        | inr e ↦ times_in-filter_other (ids_of w.living) id k e.1 ∙ t.fresh k f
      ]);
      apart = λ p. omega (arith, owners-reap w id p t h, t.apart p);
    }
