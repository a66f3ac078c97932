-- What an event leaves of the soup, the settings, the birth numbers and the running record, in a world and in a scene.
use Rattle.std.proofs.Common.{◌≡◌, ℕ, zero, suc, ◌+◌, ◌<◌, List, [], ◌∷◌, refl, ap, arith}
use Rattle.std.specs.Prelude.{Some, None, Option, IsSome, slice_index, slice_set}
use Rattle.tierra_model.specs.declared.creatures.Block.{Block}
use Rattle.tierra_model.specs.declared.creatures.Creature.{Creature}
use Rattle.tierra_model.specs.declared.events.Event.{Event}
use Rattle.tierra_model.specs.declared.events.Event.TheVariants as event
use Rattle.tierra_model.specs.World.{World, Genotype, front}
use Rattle.tierra_model.specs.Individuals.{genotypes_at_birth}
use Rattle.tierra_model.specs.Events.{apply_event, record_after, with_birth}
use Rattle.tierra_model.specs.Scene.{Scene, apply_in_scene, with_newborn}
use Rattle.tierra_model.specs.SceneRun.{births_of}
use Rattle.tierra_model.specs.Replay.{CanHappen}
use Rattle.tierra_model.proofs.Shares.{Shares}

-- ---- in a world

abbrev pub soup_after : Event → List ℕ → List ℕ
soup_after (event.Write at value) soup = slice_set soup at value
soup_after _ soup = soup

with_birth-keeps : (known : List Genotype) (b : Option Block) (mother : ℕ) (w : World)
    → ((with_birth known b mother w).soup ≡ w.soup) × ((with_birth known b mother w).settings ≡ w.settings)
with_birth-keeps known None mother w = (refl, refl)
with_birth-keeps known (Some b) mother w = (refl, refl)

pub soup-event : (w : World) (e : Event) → (apply_event w e).soup ≡ soup_after e w.soup
unfolding apply_event
soup-event w (event.Divide ran moved) = (with_birth-keeps (genotypes_at_birth (front w) ran moved w.genotypes) (front w).daughter (front w).genotype w).0
soup-event w _ = refl

pub settings-event : (w : World) (e : Event) → (apply_event w e).settings ≡ w.settings
unfolding apply_event
settings-event w (event.Divide ran moved) = (with_birth-keeps (genotypes_at_birth (front w) ran moved w.genotypes) (front w).daughter (front w).genotype w).1
settings-event w _ = refl

next_birth-with_birth : (known : List Genotype) (b : Option Block) (mother : ℕ) (w : World) → IsSome b
    → (with_birth known b mother w).next_birth ≡ w.next_birth + 1
next_birth-with_birth known None mother w h = cc
next_birth-with_birth known (Some b) mother w h = refl

pub next_birth-event : (w : World) (e : Event) → CanHappen w e → (apply_event w e).next_birth ≡ w.next_birth + births_of e
unfolding apply_event
next_birth-event w (event.Divide ran moved) c = next_birth-with_birth (genotypes_at_birth (front w) ran moved w.genotypes)
    (front w).daughter (front w).genotype w c.0
next_birth-event w _ c = omega arith

set-below : (l : List ℕ) (at value p : ℕ) → ((q : ℕ) → slice_index l q < 32) → value < 32 → slice_index (slice_set l at value) p < 32
set-below [] at value p h k = h p
set-below (x ∷ xs) zero value zero h k = k
set-below (x ∷ xs) zero value (suc p) h k = h (suc p)
set-below (x ∷ xs) (suc at) value zero h k = h zero
set-below (x ∷ xs) (suc at) value (suc p) h k = set-below xs at value p (λ q. h (suc q)) k

-- the cells stay codes
pub codes-event : (w : World) (e : Event) → CanHappen w e → ((p : ℕ) → slice_index w.soup p < 32) → (p : ℕ) → slice_index (apply_event w e).soup p < 32
codes-event w (event.Write at value) c h p = rw (soup-event w (event.Write at value)) (set-below w.soup at value p h c.1)
codes-event w e c h p = rw (soup-event w e) (h p)

-- ---- in a scene

pub with_newborn-keeps : (k : ℕ) (b : Option Block) (s : Scene)
    → ((with_newborn k b s).soup ≡ s.soup) × ((with_newborn k b s).settings ≡ s.settings) × ((with_newborn k b s).free ≡ s.free)
with_newborn-keeps k None s = (refl, refl, refl)
with_newborn-keeps k (Some b) s = (refl, refl, refl)

pub soup-in_scene : (k : ℕ) (s : Scene) (e : Event) → (apply_in_scene k s e).soup ≡ soup_after e s.soup
unfolding apply_in_scene
soup-in_scene k s (event.Divide ran moved) = (with_newborn-keeps (k + 1) s.front.daughter s).0
soup-in_scene k s _ = refl

pub settings-in_scene : (k : ℕ) (s : Scene) (e : Event) → (apply_in_scene k s e).settings ≡ s.settings
unfolding apply_in_scene
settings-in_scene k s (event.Divide ran moved) = (with_newborn-keeps (k + 1) s.front.daughter s).1
settings-in_scene k s _ = refl

pub front-in_scene : (k : ℕ) (s : Scene) (e : Event) → (apply_in_scene k s e).front ≡ record_after e s.front
unfolding apply_in_scene
front-in_scene k s event.Err = refl
front-in_scene k s _ = refl

-- ---- the running record

pub shares-event : (e : Event) (d c : Creature) → Shares d c → Shares (record_after e d) (record_after e c)
shares-event event.Err d c f = record {
  id = f.id;
  own = f.own;
  daughter = f.daughter;
  errors = ap (λ (n : ℕ). n + 1) f.errors;
  genotype = f.genotype;
  bred = f.bred;
}
shares-event event.GiveUp d c f = record { id = f.id; own = f.own; daughter = refl; errors = f.errors; genotype = f.genotype; bred = f.bred }
shares-event (event.Mal at size) d c f = record { id = f.id; own = f.own; daughter = refl; errors = f.errors; genotype = f.genotype; bred = f.bred }
shares-event (event.Divide ran moved) d c f =
    record { id = f.id; own = f.own; daughter = refl; errors = f.errors; genotype = f.genotype; bred = ap (λ (n : ℕ). n + 1) f.bred }
shares-event _ d c f = f
