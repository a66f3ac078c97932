-- Every event that can happen keeps the creature at the front, each creature once, and each cell with one owner at most.
use Rattle.std.proofs.Common.{◌≡◌, ℕ, ◌+◌, ◌<◌, ◌≤◌, Bool, true, false, List, [], ◌∷◌, refl, sym, ◌∙◌, ap, arith, inl, inr, length}
use Rattle.std.specs.Prelude.{None, Option, not, filter, unwrap_or, ◌==◌, nat_lt, slice_index}
use Rattle.std.proofs.lemmas.Bool.Decides.{nat_tests, eqb_tells}
use Rattle.tierra_model.specs.declared.creatures.Block.{Block}
use Rattle.tierra_model.specs.declared.creatures.Creature.{Creature}
use Rattle.tierra_model.specs.declared.events.Event.{Event}
use Rattle.tierra_model.specs.declared.events.Event.TheVariants as event
use Rattle.tierra_model.specs.Counting.{one_if}
use Rattle.tierra_model.specs.Blocks.{is_in, is_in_daughter}
use Rattle.tierra_model.specs.Living.{one_of, without, nobody}
use Rattle.tierra_model.specs.World.{World, front, first_of}
use Rattle.tierra_model.specs.Room.{is_owned}
use Rattle.tierra_model.specs.Sound.{owners}
use Rattle.tierra_model.specs.Individuals.{genotypes_at_birth}
use Rattle.tierra_model.specs.Events.{apply_event, record_after, with_birth, errors_in, has_id}
use Rattle.tierra_model.specs.Replay.{CanHappen}
use Rattle.tierra_model.proofs.Living.{is_here, find-without, is_here-without}
use Rattle.tierra_model.proofs.Owners.{is_owned-owners, is_here-times, ids_of-with}
use Rattle.tierra_model.proofs.Commutes.{HasFront, front-put, front-id, has_front-put, put_after}
use Rattle.tierra_model.proofs.Yards.{sum_of-error_move, sum_of-good_move, times_in-index}
use Rattle.tierra_model.proofs.EachOnce.{EachOnce, each_once-put_after, each_once-with_birth, each_once-with_death, front-with_birth, owners-put_after}
use Rattle.tierra_model.proofs.EachOnce.{owners-divide}

-- the event leaves the same creature at the front, with the record after it
pub record KeepsFront (w : World) (e : Event) : Type 0 where
  pub has_front : HasFront (apply_event w e)
  pub same : first_of (apply_event w e).slicer ≡ first_of w.slicer
  pub front : front (apply_event w e) ≡ record_after e (front w)

filter_first : (ids : List ℕ) (id : ℕ) → 0 < length ids → (first_of ids ≡ id → ⊥)
    → (first_of (filter (λ x. not (x == id)) ids) ≡ first_of ids) × (0 < length (filter (λ x. not (x == id)) ids))
filter_first [] id h n = absurd (omega arith)
filter_first (x ∷ xs) id h n = elim (eqb_tells x id) [
  | inl e ↦ absurd (n e.1)
  | inr e ↦ (rw (e.0) refl, rw (e.0) (omega arith))
]

pub front-event : (w : World) (e : Event) → HasFront w → CanHappen w e → KeepsFront w e
unfolding apply_event
front-event w (event.Write at value) l c = record { has_front = record { line = l.line; here = l.here }; same = refl; front = refl }
front-event w event.Err l c =
    let d : Creature = record_after event.Err (front w) in
    let p = has_front-put d w l in
    record { has_front = record { line = p.line; here = p.here }; same = refl; front = front-put d w l (front-id w l) }
front-event w event.Good l c = record { has_front = record { line = l.line; here = l.here }; same = refl; front = refl }
front-event w event.GiveUp l c =
    let d : Creature = record_after event.GiveUp (front w) in
    record { has_front = has_front-put d w l; same = refl; front = front-put d w l (front-id w l) }
front-event w (event.Mal at size) l c =
    let d : Creature = record_after (event.Mal at size) (front w) in
    record { has_front = has_front-put d w l; same = refl; front = front-put d w l (front-id w l) }
front-event w (event.Reap place) l c =
    let id : ℕ = slice_index w.reaper place in
    let other : (first_of w.slicer ≡ id → ⊥) = λ e. c.1 (sym e ∙ sym (front-id w l)) in
    let f = filter_first w.slicer id l.line other in
    record {
      has_front = record { line = f.1; here = rw (f.0) (is_here-without w.living (first_of w.slicer) id other ∙ l.here) };
      same = f.0;
      front = ap (λ (n : ℕ). one_of (without id w.living) n) f.0
          ∙ ap (λ (o : Option Creature). unwrap_or o nobody) (find-without w.living (first_of w.slicer) id other);
    }
front-event w (event.Divide ran moved) l c =
    let b = front-with_birth (genotypes_at_birth (front w) ran moved w.genotypes) (front w).daughter (front w).genotype w l in
    let d : Creature = record_after (event.Divide ran moved) (front w) in
    record {
      has_front = has_front-put d (with_birth (genotypes_at_birth (front w) ran moved w.genotypes) (front w).daughter (front w).genotype w) b.2;
      same = b.0;
      front = front-put d (with_birth (genotypes_at_birth (front w) ran moved w.genotypes) (front w).daughter (front w).genotype w) b.2
          (front-id w l ∙ sym b.0);
    }

pub reaped-is_here : (w : World) (place : ℕ) → EachOnce w → place < length w.reaper → is_here w.living (slice_index w.reaper place) ≡ true
reaped-is_here w place t h =
    is_here-times w.living (slice_index w.reaper place) (rw (← t.reaper (slice_index w.reaper place)) (times_in-index w.reaper place h))

pub owners-mal : (w : World) (at size p : ℕ) → HasFront w → EachOnce w → (front w).daughter ≡ None
    → owners (put_after (event.Mal at size) w).living p ≡ owners w.living p + one_if (is_in (record { at = at; size = size }) p)
owners-mal w at size p l t e =
    let own : one_if (is_in_daughter (front w).daughter p) ≡ 0 = ap (λ (x : Option Block). one_if (is_in_daughter x p)) e in
    omega (arith, owners-put_after (event.Mal at size) w p l t)

free_owners : (living : List Creature) (p : ℕ) → is_owned living p ≡ false → owners living p ≡ 0
free_owners living p e = let f : nat_lt 0 (owners living p) ≡ false = sym (is_owned-owners living p) ∙ e in below f
  where
    below : {n : ℕ} → nat_lt 0 n ≡ false → n ≡ 0
    below f = grind (arith, nat_tests)

mal_apart : (w : World) (at size p : ℕ) → EachOnce w → CanHappen w (event.Mal at size)
    → (i : Bool) → is_in (record { at = at; size = size }) p ≡ i → owners w.living p + one_if i ≤ 1
mal_apart w at size p t c true e = omega (arith, free_owners w.living p (c.2 p e))
mal_apart w at size p t c false e = omega (arith, t.apart p)

pub each_once-event : (w : World) (e : Event) → HasFront w → EachOnce w → CanHappen w e → EachOnce (apply_event w e)
unfolding apply_event
each_once-event w (event.Write at value) l t c = record { once = t.once; reaper = t.reaper; fresh = t.fresh; apart = t.apart }
each_once-event w event.Err l t c =
    let m = each_once-put_after event.Err w l t (λ p. omega (arith, owners-put_after event.Err w p l t, t.apart p)) in
    record {
      once = m.once;
      fresh = m.fresh;
      apart = m.apart;
      reaper = λ id. sum_of-error_move (λ x. one_if (x == id)) (has_id (front (put_after event.Err w)))
          (errors_in (put_after event.Err w)) w.reaper ∙ m.reaper id;
    }
each_once-event w event.Good l t c =
    record {
      once = t.once;
      fresh = t.fresh;
      apart = t.apart;
      reaper = λ id. sum_of-good_move (λ x. one_if (x == id)) (has_id (front w)) (errors_in w) w.reaper ∙ t.reaper id;
    }
each_once-event w event.GiveUp l t c =
    each_once-put_after event.GiveUp w l t (λ p. omega (arith, owners-put_after event.GiveUp w p l t, t.apart p))
each_once-event w (event.Mal at size) l t c =
    each_once-put_after (event.Mal at size) w l t (λ p.
    rw (owners-mal w at size p l t c.0) (mal_apart w at size p t c (is_in (record { at = at; size = size }) p) refl))
each_once-event w (event.Reap place) l t c = each_once-with_death w (slice_index w.reaper place) t (reaped-is_here w place t c.0)
each_once-event w (event.Divide ran moved) l t c =
    let b = each_once-with_birth (genotypes_at_birth (front w) ran moved w.genotypes) (front w).daughter (front w).genotype w l t in
    let d : Creature = record_after (event.Divide ran moved) (front w) in
    let v : World = with_birth (genotypes_at_birth (front w) ran moved w.genotypes) (front w).daughter (front w).genotype w in
    record {
      once = λ id. rw (ids_of-with d v.living) (b.0 id);
      reaper = λ id. rw (ids_of-with d v.living) (b.1 id);
      fresh = λ id h. rw (ids_of-with d v.living) (b.2 id h);
      apart = λ p. rw (owners-divide ran moved w p l t) (t.apart p);
    }
