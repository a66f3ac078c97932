-- The scene of a run mirrors the world, as long as what it noted agrees: cells, free list, yard and the running record.
use Rattle.std.proofs.Common.{◌≡◌, ℕ, zero, suc, ◌+◌, ◌^◌, ◌<◌, ◌≤◌, List, [], ◌∷◌, ◌++◌, refl, sym, ◌∙◌, ap, subst, arith, length}
use Rattle.std.specs.Prelude.{map, slice_index, slice_index_or}
use Rattle.tierra_model.specs.declared.parameters.Settings.{Settings}
use Rattle.tierra_model.specs.declared.creatures.Creature.{Creature}
use Rattle.tierra_model.specs.declared.creatures.Standing.{Standing}
use Rattle.tierra_model.specs.declared.events.Event.{Event}
use Rattle.tierra_model.specs.declared.events.Event.TheVariants as event
use Rattle.tierra_model.specs.World.{World, front, first_of}
use Rattle.tierra_model.specs.Events.{apply_event, record_after}
use Rattle.tierra_model.specs.FreeList.{free_list}
use Rattle.tierra_model.specs.Yard.{yard, no_standing}
use Rattle.tierra_model.specs.SceneRun.{SceneRun}
use Rattle.tierra_model.specs.Replay.{after_events, CanHappen, CanAllHappen}
use Rattle.tierra_model.proofs.Shares.{Shares}
use Rattle.tierra_model.proofs.Commutes.{HasFront, record_after-id}
use Rattle.tierra_model.proofs.Yards.{stands_as}
use Rattle.tierra_model.proofs.EachOnce.{EachOnce}
use Rattle.tierra_model.proofs.EventsKeep.{front-event, each_once-event}
use Rattle.tierra_model.proofs.EventEffects.{settings-event, next_birth-event, codes-event, settings-in_scene, front-in_scene, shares-event}
use Rattle.tierra_model.proofs.SceneCells.{ShowsCells, with_event, cells-event}
use Rattle.tierra_model.proofs.SceneFree.{FreeAlike, IsShown, free-event}
use Rattle.tierra_model.proofs.SceneYards.{YardAlike, yard-event}

pub after_events-snoc : (w : World) (es : List Event) (e : Event) → after_events w (es ++ e ∷ []) ≡ apply_event (after_events w es) e
after_events-snoc w [] e = refl
after_events-snoc w (d ∷ es) e = after_events-snoc (apply_event w d) es e

pub can-snoc : (w : World) (es : List Event) (e : Event) → CanAllHappen w es → CanHappen (after_events w es) e → CanAllHappen w (es ++ e ∷ [])
can-snoc w [] e h c = (c, tt)
can-snoc w (d ∷ es) e h c = (h.0, can-snoc (apply_event w d) es e h.1 c)

-- w is the world at the quantum's start, and v is w after the events of the run; the free list and the yard are shown if
-- those of the scene were the world's.
pub record Mirrors (w v : World) (x : SceneRun) : Type 0 where
  pub after_events : v ≡ after_events w x.events
  pub can : CanAllHappen w x.events
  pub has_front : HasFront v
  pub each_once : EachOnce v
  pub number : x.now.front.id ≡ first_of v.slicer
  pub fits : Shares (front v) x.now.front
  pub old : x.now.front.id < w.next_birth
  pub small : w.next_birth ≤ 2 ^ 63
  pub next_birth : v.next_birth ≡ w.next_birth + x.newborns
  pub settings : v.settings ≡ w.settings
  pub scene_settings : x.now.settings ≡ w.settings
  pub cells : ShowsCells x w.soup v.soup
  pub codes : (p : ℕ) → slice_index v.soup p < 32
  pub free : x.start.free ≡ free_list w → FreeAlike w.settings.soup_size x.now.free v
  pub yard : x.start.yard ≡ yard w → YardAlike w.next_birth x.now.yard v

-- ---- an event

map-at : {Y : Type 0} (f : ℕ → Y) (xs : List ℕ) (k : ℕ) (d : Y) → k < length xs → slice_index_or (map f xs) k d ≡ f (slice_index xs k)
map-at f [] k d h = absurd (omega arith)
map-at f (x ∷ xs) zero d h = refl
map-at f (x ∷ xs) (suc k) d h = map-at f xs k d (omega arith)

-- where the event reaps, the yard is the world's
abbrev pub KnowsYard : World → SceneRun → Event → Type 0
KnowsYard w x (event.Reap place) = x.start.yard ≡ yard w
KnowsYard w x _ = Unit {0}

is_shown : (w v : World) (x : SceneRun) (e : Event) → Mirrors w v x → CanHappen v e → KnowsYard w x e → IsShown x.now v e
is_shown w v x (event.Reap place) m c k =
    let y : slice_index_or x.now.yard place no_standing ≡ stands_as w.next_birth v.living (slice_index v.reaper place)
    = ap (λ (l : List Standing). slice_index_or l place no_standing) (m.yard k) ∙ map-at (stands_as w.next_birth v.living) v.reaper place no_standing c.0 in
    (ap (λ (x : Standing). x.own) y, ap (λ (x : Standing). x.daughter) y)
is_shown w v x _ m c k = tt

pub mirrors-event : (w v : World) (x : SceneRun) (e : Event) → Mirrors w v x → CanHappen v e → KnowsYard w x e → Mirrors w (apply_event v e) (with_event x e)
mirrors-event w v x e m c k =
    let d = front-event v e m.has_front c in
    let f : (with_event x e).now.front ≡ record_after e x.now.front = front-in_scene x.newborns x.now e in
    let id : (with_event x e).now.front.id ≡ x.now.front.id = ap (λ (a : Creature). a.id) f ∙ record_after-id e x.now.front in
    record {
      after_events = ap (λ (u : World). apply_event u e) m.after_events ∙ sym (after_events-snoc w x.events e);
      can = can-snoc w x.events e m.can (subst (λ u. CanHappen u e) m.after_events c);
      has_front = d.has_front;
      each_once = each_once-event v e m.has_front m.each_once c;
      number = id ∙ m.number ∙ sym d.same;
      fits = subst (λ a. Shares a (with_event x e).now.front) (sym d.front)
          (subst (λ a. Shares (record_after e (front v)) a) (sym f) (shares-event e (front v) x.now.front m.fits));
      old = rw id m.old;
      small = m.small;
      next_birth = next_birth-event v e c ∙ omega (arith, m.next_birth);
      settings = settings-event v e ∙ m.settings;
      scene_settings = settings-in_scene x.newborns x.now e ∙ m.scene_settings;
      cells = cells-event x e w.soup v m.cells;
      codes = codes-event v e c m.codes;
      free = λ h. let r = free-event x.newborns x.now v e m.has_front m.each_once c m.fits (is_shown w v x e m c k) in
          let n = ap (λ (a : Settings). a.soup_size) m.scene_settings in
          subst (λ b. FreeAlike b (with_event x e).now.free (apply_event v e)) n (r (subst (λ b. FreeAlike b x.now.free v) (sym n) (m.free h)));
      yard = λ h. yard-event w.next_birth x.newborns x.now v e m.has_front m.each_once c m.fits m.number m.old m.small m.next_birth (m.yard h);
    }
