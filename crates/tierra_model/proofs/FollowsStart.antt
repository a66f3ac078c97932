-- A run begins, in a scene that has the settings and the record of a world, as the log of the world does.
use Rattle.std.proofs.Common.{◌≡◌, ℕ, ◌+◌, ◌<◌, ◌≤◌, Bool, true, false, cond, List, [], ◌∷◌, refl, sym, ◌∙◌, ap, subst, arith, inl, inr, length}
use Rattle.std.specs.Prelude.{Some, not, find, unwrap_or, ◌==◌, if◌then◌else◌}
use Rattle.std.proofs.lemmas.Bool.Decides.{eqb_tells}
use Rattle.tierra_model.specs.declared.parameters.Settings.{Settings}
use Rattle.tierra_model.specs.declared.creatures.Block.{Block}
use Rattle.tierra_model.specs.declared.creatures.Creature.{Creature}
use Rattle.tierra_model.specs.declared.creatures.Standing.{Standing}
use Rattle.tierra_model.specs.Counting.{times_in, one_if}
use Rattle.tierra_model.specs.Living.{one_of, with_record, nobody, ids_of}
use Rattle.tierra_model.specs.World.{World, front, put, first_of}
use Rattle.tierra_model.specs.Room.{is_owned}
use Rattle.tierra_model.specs.Sound.{IsSound}
use Rattle.tierra_model.specs.FreeList.{is_in_some}
use Rattle.tierra_model.specs.Yard.{standing}
use Rattle.tierra_model.specs.Scene.{Scene}
use Rattle.tierra_model.specs.SceneRun.{run_start}
use Rattle.tierra_model.specs.Log.{empty_log}
use Rattle.tierra_model.proofs.Shares.{Shares}
use Rattle.tierra_model.proofs.Living.{is_here, one_of-id}
use Rattle.tierra_model.proofs.Owners.{is_here-times, times-is_here, with_record-none}
use Rattle.tierra_model.proofs.Commutes.{front-id}
use Rattle.tierra_model.proofs.Free.{runs_of_in}
use Rattle.tierra_model.proofs.Yards.{renamed, renamed-old, stands_as, map-cong-in}
use Rattle.tierra_model.proofs.Sound.{sound-has_front, sound-each_once, sound-id_below}
use Rattle.tierra_model.proofs.WithinRun.{cells_below}
use Rattle.tierra_model.proofs.Follows.{Follows}

same_if_both : {A : Type 0} (b : Bool) (x : A) → cond b x x ≡ x
same_if_both true x = refl
same_if_both false x = refl

put_self : (living : List Creature) (id : ℕ) → is_here living id ≡ true → times_in (ids_of living) id ≤ 1 → with_record (one_of living id) living ≡ living
put_self [] id h o = refl
put_self (x ∷ xs) id h o = elim (eqb_tells x.id id) [
  | inl e ↦
      (let one : one_of (x ∷ xs) id ≡ x = ap (λ (b : Bool). unwrap_or (cond b (Some x) (find (λ c. c.id == id) xs)) nobody) e.0 in
      let none : times_in (ids_of xs) x.id ≡ 0 =
      (let o' : one_if true + times_in (ids_of xs) id ≤ 1 = rw (e.0) at o in subst (λ n. times_in (ids_of xs) n ≡ 0) (sym e.1) (omega arith)) in
      subst (λ d. with_record d (x ∷ xs) ≡ x ∷ xs) (sym one)
      (ap (λ (c : Creature). c ∷ with_record x xs) (same_if_both (x.id == x.id) x) ∙ ap (λ (l : List Creature). x ∷ l) (with_record-none x xs none)))
  | inr e ↦
      (let one : one_of (x ∷ xs) id ≡ one_of xs id = ap (λ (b : Bool). unwrap_or (cond b (Some x) (find (λ c. c.id == id) xs)) nobody) e.0 in
      let here : is_here xs id ≡ true = rw (e.0) at h in
      let o' : one_if false + times_in (ids_of xs) id ≤ 1 = rw (e.0) at o in
      let rest = put_self xs id here (omega arith) in
      let other : (x.id == (one_of xs id).id) ≡ false = ap (λ (n : ℕ). x.id == n) (one_of-id xs id here) ∙ e.0 in
      subst (λ d. with_record d (x ∷ xs) ≡ x ∷ xs) (sym one)
      (ap (λ (b : Bool). (if b then one_of xs id else x) ∷ with_record (one_of xs id) xs) other ∙ ap (λ (l : List Creature). x ∷ l) rest))
]

not_not : (b : Bool) → not (not b) ≡ b
not_not true = refl
not_not false = refl

pub follows-start : (scene : Scene) (w : World) → IsSound w → w.settings ≡ scene.settings → front w ≡ scene.front → length scene.soup ≡ scene.settings.soup_size
    → Follows w scene (run_start scene) (empty_log w)
follows-start scene w s e a n =
    let l = sound-has_front w s in
    let self : put (front w) w ≡ w = ap (λ (x : List Creature). let u : World = record w { living = x } in u)
    (put_self w.living (first_of w.slicer) l.here (s.once (first_of w.slicer))) in
    record {
      began = refl;
      before = w;
      same = sym self ∙ ap (λ (c : Creature). put c w) a;
      notes = record { start = refl; cells = refl; free_noted = refl; yard_noted = refl; events = refl };
      mirrors = record {
        after_events = refl;
        can = tt;
        has_front = l;
        each_once = sound-each_once w s;
        number = ap (λ (c : Creature). c.id) (sym a) ∙ front-id w l;
        fits = subst (λ c. Shares (front w) c) a (record { id = refl; own = refl; daughter = refl; errors = refl; genotype = refl; bred = refl });
        old = subst (λ (c : Creature). c.id < w.next_birth) a
            (rw (front-id w l) (sound-id_below w (first_of w.slicer) s (times-is_here w.living (first_of w.slicer) l.here)));
        small = omega (arith, s.next_birth, s.quanta);
        next_birth = omega arith;
        settings = refl;
        scene_settings = sym e;
        cells = record { known = λ p k. cc; unknown = λ p k. refl; unread = λ p k. refl; sized = s.cells ∙ ap (λ (t : Settings). t.soup_size) e ∙ sym n };
        codes = cells_below w.soup s.codes;
        free = λ h q k. ap (λ (b : List Block). not (is_in_some b q)) h ∙ ap not (runs_of_in w.settings.soup_size (λ p. not (is_owned w.living p)) q k)
            ∙ not_not (is_owned w.living q);
        yard = λ h. h ∙ map-cong-in (λ id. standing (one_of w.living id)) (stands_as w.next_birth w.living) w.reaper (λ id there.
            let n : 0 < times_in (ids_of w.living) id = rw (← s.reaper id) there in
            let i : (one_of w.living id).id ≡ renamed w.next_birth id =
            one_of-id w.living id (is_here-times w.living id n) ∙ sym (renamed-old w.next_birth id (sound-id_below w id s n)) in
            (λ j. let st : Standing = record (standing (one_of w.living id)) { id = i j } in st));
      };
    }
