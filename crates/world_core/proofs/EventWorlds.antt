-- What an event makes of a world, field by field.
use Rattle.std.proofs.Common.{◌≡◌, ℕ, ◌+◌, List, [], ◌∷◌, ◌++◌, refl, sym, ◌∙◌, ap}
use Rattle.std.specs.Prelude.{Option, Some, filter, not, slice_index, slice_range, slice_set, ◌==◌}
use Rattle.tierra_model.specs.declared.creatures.Block.{Block}
use Rattle.tierra_model.specs.declared.creatures.Creature.{Creature}
use Rattle.tierra_model.specs.declared.events.Event.TheVariants as event
use Rattle.tierra_model.specs.Queue.{error_move, good_move}
use Rattle.tierra_model.specs.Living.{newborn, one_of, with_record, without}
use Rattle.tierra_model.specs.World.{Genotype, Saving, World, front, put}
use Rattle.tierra_model.specs.Individuals.{genotypes_at_birth, savings_after, with_effort_of, with_individual}
use Rattle.tierra_model.specs.Events.{apply_event, errors_in, has_id, record_after, with_birth, with_death}
use Rattle.tierra_model.proofs.Commutes.{error_move-cong, front-id, front-put, with_reaper}
use Rattle.world_core.specs.Running.{IsRunning}
use Rattle.world_core.proofs.Within.{has_front}

abbrev pub with_lists : World → List Creature → List ℕ → List ℕ → World
with_lists w living slicer reaper = record w { living = living; slicer = slicer; reaper = reaper }

pub after-err : (w : World) (c : Creature) → IsRunning w → c ≡ record_after event.Err (front w)
    → apply_event w event.Err
    ≡ with_lists w (with_record c w.living) w.slicer (error_move (λ id. id == c.id) (λ id. (one_of (with_record c w.living) id).errors) w.reaper)
unfolding apply_event
after-err w c r e =
    let d : Creature = record_after event.Err (front w) in
    let same : front (put d w) ≡ d = front-put d w (has_front w r) (front-id w (has_front w r)) in
    ap (with_reaper (put d w))
    (error_move-cong (has_id (front (put d w))) (has_id d) (errors_in (put d w)) (errors_in (put d w)) (λ id. ap (λ (x : Creature). id == x.id) same)
    (λ id. refl) w.reaper)
    ∙ ap (λ (x : Creature). with_lists w (with_record x w.living) w.slicer
    (error_move (λ id. id == x.id) (λ id. (one_of (with_record x w.living) id).errors) w.reaper)) (sym e)

pub after-good : (w : World) (k : ℕ) → k ≡ (front w).id
    → apply_event w event.Good ≡ with_lists w w.living w.slicer (good_move (λ id. id == k) (λ id. (one_of w.living id).errors) w.reaper)
unfolding apply_event
after-good w k e = ap (λ (x : ℕ). with_lists w w.living w.slicer (good_move (λ id. id == x) (errors_in w) w.reaper)) (sym e)

pub after-give_up : (w : World) (c : Creature) → c ≡ record_after event.GiveUp (front w)
    → apply_event w event.GiveUp ≡ with_lists w (with_record c w.living) w.slicer w.reaper
unfolding apply_event
after-give_up w c e = ap (λ (x : Creature). put x w) (sym e)

pub after-mal : (w : World) (c : Creature) (at size : ℕ) → c ≡ record_after (event.Mal at size) (front w)
    → apply_event w (event.Mal at size) ≡ with_lists w (with_record c w.living) w.slicer w.reaper
unfolding apply_event
after-mal w c at size e = ap (λ (x : Creature). put x w) (sym e)

pub after-reap : (w : World) (place id : ℕ) → id ≡ slice_index w.reaper place
    → apply_event w (event.Reap place)
    ≡ record (with_lists w (without id w.living) (filter (λ x. not (x == id)) w.slicer) (filter (λ x. not (x == id)) w.reaper)) { deaths = w.deaths + 1 }
unfolding apply_event
after-reap w place id e = ap (λ (k : ℕ). with_death k w) (sym e)

-- a birth from the daughter block b
pub after-divide : (w : World) (ran moved : ℕ) (b : Block) → (front w).daughter ≡ Some b
    → (let mother = record_after (event.Divide ran moved) (front w) in
    let code = slice_range w.soup b.at (b.at + b.size) in
    let (genotypes, k) = with_individual (genotypes_at_birth (front w) ran moved w.genotypes) code (Some (front w).genotype) (w.quanta + 1) in
    apply_event w (event.Divide ran moved)
    ≡ record w {
      living = with_record mother (w.living ++ newborn w.next_birth b k ∷ []);
      slicer = w.slicer ++ w.next_birth ∷ [];
      reaper = w.reaper ++ w.next_birth ∷ [];
      genotypes = genotypes;
      saved = savings_after w.settings.save_at genotypes k (w.quanta + 1) w.saved;
      next_birth = w.next_birth + 1;
      births = w.births + 1;
    })
unfolding apply_event
after-divide w ran moved b e =
    ap (λ (d : Option Block). put (record_after (event.Divide ran moved) (front w))
    (with_birth (genotypes_at_birth (front w) ran moved w.genotypes) d (front w).genotype w)) e

-- a birth, from what its parts give
pub born : (w : World) (ran moved : ℕ) (b : Block) (x nb : Creature) (gs hs : List Genotype) (k save_at : ℕ) (code : List ℕ) (saved : List Saving)
    → x ≡ front w → x.daughter ≡ Some b → code ≡ slice_range w.soup b.at (b.at + b.size)
    → gs ≡ with_effort_of x.genotype (x.bred + 1) (record { ran = ran; moved = moved }) w.genotypes
    → hs ≡ (with_individual gs code (Some x.genotype) (w.quanta + 1)).0 → k ≡ (with_individual gs code (Some x.genotype) (w.quanta + 1)).1
    → save_at ≡ w.settings.save_at
    → saved ≡ savings_after save_at (with_individual gs code (Some x.genotype) (w.quanta + 1)).0 k (w.quanta + 1) w.saved
    → nb ≡ newborn w.next_birth b k
    → record w {
      living = with_record (record_after (event.Divide ran moved) x) (w.living ++ nb ∷ []);
      slicer = w.slicer ++ nb.id ∷ [];
      reaper = w.reaper ++ nb.id ∷ [];
      genotypes = hs;
      saved = saved;
      next_birth = w.next_birth + 1;
      births = w.births + 1;
    } ≡ apply_event w (event.Divide ran moved)
born w ran moved b x nb gs hs k save_at code saved ex ed ec eg eh ek ea es en =
    let q : ℕ = w.quanta + 1 in
    let known : gs ≡ genotypes_at_birth (front w) ran moved w.genotypes
    = eg ∙ (λ i. with_effort_of (ex i).genotype ((ex i).bred + 1) (record { ran = ran; moved = moved }) w.genotypes) in
    let all : with_individual gs code (Some x.genotype) q
    ≡ with_individual (genotypes_at_birth (front w) ran moved w.genotypes) (slice_range w.soup b.at (b.at + b.size)) (Some (front w).genotype) q
    = (λ i. with_individual (known i) (ec i) (Some (ex i).genotype) q) in
    let number : k ≡ (with_individual (genotypes_at_birth (front w) ran moved w.genotypes) (slice_range w.soup b.at (b.at + b.size)) (Some (front w).genotype)
    q).1
    = ek ∙ ap (λ (r : List Genotype × ℕ). r.1) all in
    let genotypes = eh ∙ ap (λ (r : List Genotype × ℕ). r.0) all in
    let savings = es ∙ (λ i. savings_after (ea i) (all i).0 (number i) q w.saved) in
    let child = en ∙ ap (newborn w.next_birth b) number in
    (λ i. record w {
      living = with_record (record_after (event.Divide ran moved) (ex i)) (w.living ++ child i ∷ []);
      slicer = w.slicer ++ (child i).id ∷ [];
      reaper = w.reaper ++ (child i).id ∷ [];
      genotypes = genotypes i;
      saved = savings i;
      next_birth = w.next_birth + 1;
      births = w.births + 1;
    }) ∙ sym (after-divide w ran moved b (ap (λ (c : Creature). c.daughter) (sym ex) ∙ ed))

pub after-write : (w : World) (at value : ℕ) → apply_event w (event.Write at value) ≡ record w { soup = slice_set w.soup at value }
unfolding apply_event
after-write w at value = refl
