-- Who lives after a quantum lived before it, or was born in it.
use Rattle.std.proofs.Common.{◌≡◌, ◌≤◌, ◌<◌, ◌+◌, ◌∙◌, ℕ, List, [], ◌∷◌, ◌++◌, ap, sym, refl, arith, subst}
use Rattle.std.specs.Prelude.{None, Option, Some, not, slice_index, slice_range, ◌==◌}
use Rattle.std.proofs.lemmas.Bool.Decides.{nat_tests}
use Rattle.tierra_model.specs.declared.creatures.Block.{Block}
use Rattle.tierra_model.specs.declared.creatures.Creature.{Creature}
use Rattle.tierra_model.specs.declared.events.Event.{Event}
use Rattle.tierra_model.specs.declared.events.Event.TheVariants as event
use Rattle.tierra_model.specs.declared.parameters.Settings.{Settings}
use Rattle.tierra_model.specs.Counting.{one_if, times_in}
use Rattle.tierra_model.specs.Events.{apply_event, record_after, with_birth}
use Rattle.tierra_model.specs.Individuals.{genotypes_at_birth, with_individual}
use Rattle.tierra_model.specs.Living.{ids_of, newborn}
use Rattle.tierra_model.specs.Quantum.{quantum, run, slice_of, world_machine}
use Rattle.tierra_model.specs.World.{Genotype, World, front, put}
use Rattle.tierra_model.proofs.Operations.{EachOperation, each-run}
use Rattle.tierra_model.proofs.Owners.{ids_of-append, ids_of-with, ids_of-without, times_in-append}
use Rattle.run_log.proofs.Numbers.{times_in-fewer}

-- w comes of v
pub record IsLater (v w : World) : Type 0 where
  pub next_birth : v.next_birth ≤ w.next_birth
  pub births : w.births + v.next_birth ≡ v.births + w.next_birth
  pub lived : (id : ℕ) → id < v.next_birth → times_in (ids_of w.living) id ≤ times_in (ids_of v.living) id

later-none : (v : World) → IsLater v v
later-none v = record { next_birth = omega arith; births = refl; lived = λ id h. omega arith }

later-put : (c : Creature) (v w : World) → IsLater v w → IsLater v (put c w)
later-put c v w l =
    record {
      next_birth = l.next_birth;
      births = l.births;
      lived = λ id h. subst (λ ids. times_in ids id ≤ times_in (ids_of v.living) id) (sym (ids_of-with c w.living)) (l.lived id h);
    }

later-with_birth : (known : List Genotype) (o : Option Block) (parent : ℕ) (v w : World) → IsLater v w → IsLater v (with_birth known o parent w)
later-with_birth known None parent v w l = l
later-with_birth known (Some b) parent v w l =
    let k : ℕ = (with_individual known (slice_range w.soup b.at (b.at + b.size)) (Some parent) (w.quanta + 1)).1 in
    let child : Creature = newborn w.next_birth b k in
    record {
      next_birth = omega (arith, l.next_birth);
      births = omega (arith, l.births);
      lived = λ id h. (
          let ids : times_in (ids_of (w.living ++ child ∷ [])) id ≡ times_in (ids_of w.living) id + (one_if (w.next_birth == id) + 0) =
          ap (λ (xs : List ℕ). times_in xs id) (ids_of-append w.living (child ∷ [])) ∙ times_in-append (ids_of w.living) (w.next_birth ∷ []) id in
          let other : one_if (w.next_birth == id) ≡ 0 = differs w.next_birth id (omega (arith, h, l.next_birth)) in
          omega (arith, ids, other, l.lived id h));
    }
  where
    differs : (n id : ℕ) → id < n → one_if (n == id) ≡ 0
    differs n id below = grind (arith, nat_tests)

later-event : (v w : World) (e : Event) → IsLater v w → IsLater v (apply_event w e)
unfolding apply_event
later-event v w event.Err l = (let p = later-put (record_after event.Err (front w)) v w l in
    record { next_birth = p.next_birth; births = p.births; lived = p.lived })
later-event v w event.GiveUp l = later-put (record_after event.GiveUp (front w)) v w l
later-event v w (event.Mal at size) l = later-put (record_after (event.Mal at size) (front w)) v w l
later-event v w (event.Reap place) l =
    let gone : ℕ = slice_index w.reaper place in
    record {
      next_birth = l.next_birth;
      births = l.births;
      lived = λ id h. subst (λ ids. times_in ids id ≤ times_in (ids_of v.living) id) (sym (ids_of-without gone w.living))
          (omega (arith, times_in-fewer (λ x. not (x == gone)) (ids_of w.living) id, l.lived id h));
    }
later-event v w (event.Divide ran moved) l =
    let u : World = with_birth (genotypes_at_birth (front w) ran moved w.genotypes) (front w).daughter (front w).genotype w in
    later-put (record_after (event.Divide ran moved) (front w)) v u
    (later-with_birth (genotypes_at_birth (front w) ran moved w.genotypes) (front w).daughter (front w).genotype v w l)
later-event v w _ l = record { next_birth = l.next_birth; births = l.births; lived = l.lived }

each_operation : (v : World) → EachOperation world_machine (λ u w. IsLater v u → IsLater v w)
each_operation v =
    record {
      none = λ u l. l;
      next = λ u w x f g l. g (f l);
      put = λ c u l. later-put c v u l;
      look = λ p u l. l;
      ask_free = λ u l. l;
      ask_reaper = λ u l. l;
      apply = λ e u l. later-event v u e l;
    }

later-run : (s : Settings) (q k : ℕ) (w : World) → IsLater w (run world_machine s q k w)
later-run s q k w = each-run world_machine s (λ u x. IsLater w u → IsLater w x) (each_operation w) q k w (later-none w)

pub later-quantum : (w : World) → IsLater w (quantum w)
unfolding quantum
later-quantum w =
    let l = later-run w.settings (w.quanta + 1) (slice_of (front w).own.size w.settings) w in
    record { next_birth = l.next_birth; births = l.births; lived = l.lived }
