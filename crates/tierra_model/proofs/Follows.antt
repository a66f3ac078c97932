-- A run in a scene follows the log of a world: each operation leaves the same, and the same notes.
use Rattle.std.proofs.Common.{◌≡◌, ℕ, ◌<◌, Bool, true, false, cond, List, [], ◌∷◌, ◌++◌, refl, sym, ◌∙◌, ap, subst, arith}
use Rattle.std.specs.Prelude.{◌||◌, slice_index}
use Rattle.std.specs.List.{list_any}
use Rattle.tierra_model.specs.declared.creatures.Creature.{Creature}
use Rattle.tierra_model.specs.declared.events.Event.{Event}
use Rattle.tierra_model.specs.Living.{with_record, one_of}
use Rattle.tierra_model.specs.World.{World, front, put, first_of}
use Rattle.tierra_model.specs.Events.{apply_event}
use Rattle.tierra_model.specs.Yard.{with_standing}
use Rattle.tierra_model.specs.Scene.{Scene}
use Rattle.tierra_model.specs.Reads.{is_noted, writes}
use Rattle.tierra_model.specs.SceneRun.{SceneRun, scene_machine, with_noted_cell, is_known}
use Rattle.tierra_model.specs.Log.{Log, log_machine}
use Rattle.tierra_model.specs.Replay.{CanHappen}
use Rattle.tierra_model.proofs.Shares.{Shares}
use Rattle.tierra_model.proofs.Living.{is_here}
use Rattle.tierra_model.proofs.Commutes.{front-put, commutes, put-put}
use Rattle.tierra_model.proofs.Yards.{stands_as, with_standing-map, stands-put, map-cong}
use Rattle.tierra_model.proofs.EventEffects.{front-in_scene}
use Rattle.tierra_model.proofs.SceneCells.{WasSame, with_event, cell-seen, cells-look}
use Rattle.tierra_model.proofs.Mirrors.{Mirrors, KnowsYard, mirrors-event}

-- the log of w has what the run has noted
pub record SameNotes (w : World) (x : SceneRun) (l : Log) : Type 0 where
  pub start : l.start ≡ w
  pub cells : l.cells ≡ x.cells
  pub free_noted : l.free_noted ≡ x.free_noted
  pub yard_noted : l.yard_noted ≡ x.yard_noted
  pub events : l.events ≡ x.events

-- The run in the scene, which was start, stands for the log: its scene mirrors before, the log's world but for the
-- running record.
pub record Follows (w : World) (start : Scene) (x : SceneRun) (l : Log) : Type 0 where
  pub began : x.start ≡ start
  pub before : World
  pub mirrors : Mirrors w before x
  pub same : l.now ≡ put x.now.front before
  pub notes : SameNotes w x l

module _ (w : World) (start : Scene) where
  pub follows-front : (x : SceneRun) (l : Log) → Follows w start x l → front l.now ≡ x.now.front
  follows-front x l f = ap front f.same ∙ front-put x.now.front f.before f.mirrors.has_front f.mirrors.number

  -- ---- an event

  pub follows-event : (e : Event) (x : SceneRun) (l : Log) → (f : Follows w start x l) → CanHappen f.before e → KnowsYard w x e
      → Follows w start (with_event x e) (log_machine.apply l e)
  follows-event e x l f c k =
      record {
        began = f.began;
        before = apply_event f.before e;
        mirrors = mirrors-event w f.before x e f.mirrors c k;
        same = ap (λ (u : World). apply_event u e) f.same ∙ commutes f.before x.now.front e f.mirrors.has_front f.mirrors.number f.mirrors.fits
            ∙ ap (λ (a : Creature). put a (apply_event f.before e)) (sym (front-in_scene x.newborns x.now e));
        notes = (let n = f.notes in record {
          start = n.start;
          cells = n.cells;
          free_noted = n.free_noted;
          yard_noted = n.yard_noted;
          events = ap (λ (l : List Event). l ++ e ∷ []) n.events;
        });
      }

  -- ---- a look

  -- a cell that is not known is noted with the same value in both
  notes-look : (p : ℕ) (x : SceneRun) (l : Log) → SameNotes w x l → WasSame x w.soup p → SameNotes w (with_noted_cell x p) (log_machine.look l p)
  unfolding with_noted_cell
  notes-look p x l n h =
      record {
        start = n.start;
        cells = (λ i. cond (is_noted (n.cells i) p || list_any (writes p) (n.events i)) (n.cells i) (n.cells i ++ (p, slice_index (n.start i).soup p) ∷ []))
            ∙ value (is_known x p) refl;
        free_noted = n.free_noted;
        yard_noted = n.yard_noted;
        events = n.events;
      }
    where
      value : (b : Bool) → is_known x p ≡ b
          → cond b x.cells (x.cells ++ (p, slice_index w.soup p) ∷ []) ≡ cond b x.cells (x.cells ++ (p, slice_index x.start.soup p) ∷ [])
      value true k = refl
      value false k = ap (λ (v : ℕ). x.cells ++ (p, v) ∷ []) (sym (h k))

  mirrors-look : (v : World) (p : ℕ) (x : SceneRun) → Mirrors w v x → WasSame x w.soup p → Mirrors w v (with_noted_cell x p)
  unfolding with_noted_cell
  mirrors-look v p x m h =
      record {
        after_events = m.after_events;
        can = m.can;
        has_front = m.has_front;
        each_once = m.each_once;
        number = m.number;
        fits = m.fits;
        old = m.old;
        small = m.small;
        next_birth = m.next_birth;
        settings = m.settings;
        scene_settings = m.scene_settings;
        cells = cells-look x w.soup v.soup p m.cells h;
        codes = m.codes;
        free = m.free;
        yard = m.yard;
      }

  pub follows-look : (p : ℕ) (x : SceneRun) (l : Log) → Follows w start x l → WasSame x w.soup p
      → (slice_index l.now.soup p ≡ slice_index x.now.soup p) × Follows w start (with_noted_cell x p) (log_machine.look l p)
  unfolding with_noted_cell
  follows-look p x l f h = (
    ap (λ (u : World). slice_index u.soup p) f.same ∙ cell-seen x w.soup f.before.soup p f.mirrors.cells h,
    record {
      began = f.began;
      before = f.before;
      mirrors = mirrors-look f.before p x f.mirrors h;
      same = f.same;
      notes = notes-look p x l f.notes h;
    },
  )

  pub follows-below : (p : ℕ) (x : SceneRun) (l : Log) → Follows w start x l → slice_index l.now.soup p < 32
  follows-below p x l f = subst (λ (u : World). slice_index u.soup p < 32) (sym f.same) (f.mirrors.codes p)

  -- ---- a record put in

  shares-trans : (a b c : Creature) → Shares a b → Shares b c → Shares a c
  shares-trans a b c f g =
      record {
        id = g.id ∙ f.id;
        own = g.own ∙ f.own;
        daughter = g.daughter ∙ f.daughter;
        errors = g.errors ∙ f.errors;
        genotype = g.genotype ∙ f.genotype;
        bred = g.bred ∙ f.bred;
      }

  mirrors-put : (c : Creature) (v : World) (x : SceneRun) → Mirrors w v x → Shares x.now.front c → Mirrors w v (scene_machine.put c x)
  mirrors-put c v x m f =
      let fits : Shares (front v) c = shares-trans (front v) x.now.front c m.fits f in
      let number : c.id ≡ first_of v.slicer = f.id ∙ m.number in
      let here : is_here v.living c.id ≡ true = rw number m.has_front.here in
      record {
        after_events = m.after_events;
        can = m.can;
        has_front = m.has_front;
        each_once = m.each_once;
        number = number;
        fits = fits;
        old = rw f.id m.old;
        small = m.small;
        next_birth = m.next_birth;
        settings = m.settings;
        scene_settings = m.scene_settings;
        cells = record { known = m.cells.known; unknown = m.cells.unknown; unread = m.cells.unread; sized = m.cells.sized };
        codes = m.codes;
        free = m.free;
        yard = λ h. ap (with_standing c) (m.yard h)
            ∙ with_standing-map w.next_birth c v.living v.reaper (rw f.id m.old) (rw f.id (omega (arith, m.old, m.small))) here
            ∙ map-cong (stands_as w.next_birth (with_record c v.living)) (stands_as w.next_birth v.living)
            (stands-put w.next_birth c v.living (subst (λ n. Shares (one_of v.living n) c) (sym number) fits) here) v.reaper;
      }

  pub follows-put : (c : Creature) (x : SceneRun) (l : Log) → Follows w start x l → Shares x.now.front c
      → Follows w start (scene_machine.put c x) (log_machine.put c l)
  follows-put c x l f k =
      record {
        began = f.began;
        before = f.before;
        mirrors = mirrors-put c f.before x f.mirrors k;
        same = ap (put c) f.same ∙ put-put c x.now.front f.before k.id;
        notes = (let n = f.notes in record { start = n.start; cells = n.cells; free_noted = n.free_noted; yard_noted = n.yard_noted; events = n.events });
      }

  -- ---- the free list and the yard noted

  mirrors-noted : (v : World) (x : SceneRun) (a b : Bool) → Mirrors w v x → Mirrors w v (record x { free_noted = a; yard_noted = b })
  mirrors-noted v x a b m =
      record {
        after_events = m.after_events;
        can = m.can;
        has_front = m.has_front;
        each_once = m.each_once;
        number = m.number;
        fits = m.fits;
        old = m.old;
        small = m.small;
        next_birth = m.next_birth;
        settings = m.settings;
        scene_settings = m.scene_settings;
        cells = record { known = m.cells.known; unknown = m.cells.unknown; unread = m.cells.unread; sized = m.cells.sized };
        codes = m.codes;
        free = m.free;
        yard = m.yard;
      }

  pub follows-ask_reaper : (x : SceneRun) (l : Log) → Follows w start x l → Follows w start (scene_machine.ask_reaper x) (log_machine.ask_reaper l)
  follows-ask_reaper x l f =
      let n = f.notes in
      record {
        began = f.began;
        before = f.before;
        mirrors = mirrors-noted f.before x x.free_noted true f.mirrors;
        same = f.same;
        notes = record { start = n.start; cells = n.cells; free_noted = n.free_noted; yard_noted = refl; events = n.events };
      }

  pub follows-ask_free : (x : SceneRun) (l : Log) → Follows w start x l → Follows w start (scene_machine.ask_free x) (log_machine.ask_free l)
  follows-ask_free x l f =
      let n = f.notes in
      record {
        began = f.began;
        before = f.before;
        mirrors = mirrors-noted f.before x true x.yard_noted f.mirrors;
        same = f.same;
        notes = record { start = n.start; cells = n.cells; free_noted = refl; yard_noted = n.yard_noted; events = n.events };
      }
