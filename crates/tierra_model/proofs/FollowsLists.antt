-- Where the free list and the yard of the scene were those of the world, a run in it finds room where the log does, and
-- reaps whom the log reaps.
use Rattle.std.proofs.Common.{◌≡◌, ℕ, ◌+◌, ◌<◌, ◌≤◌, List, [], ◌∷◌, refl, sym, ◌∙◌, ap, subst, arith, length}
use Rattle.std.specs.Prelude.{IsSome, map, nat_lt, slice_index}
use Rattle.std.proofs.lemmas.List.{length-map}
use Rattle.tierra_model.specs.Counting.{one_if}
use Rattle.tierra_model.specs.declared.parameters.Settings.{Settings}
use Rattle.tierra_model.specs.declared.creatures.Creature.{Creature}
use Rattle.tierra_model.specs.declared.creatures.Standing.{Standing}
use Rattle.tierra_model.specs.declared.events.Event.{Event}
use Rattle.tierra_model.specs.declared.events.Event.TheVariants as event
use Rattle.tierra_model.specs.Queue.{place_of_first_other, number_of_others}
use Rattle.tierra_model.specs.Quantum.{victim}
use Rattle.tierra_model.specs.Blocks.{is_in, is_in_daughter}
use Rattle.tierra_model.specs.Living.{with_record}
use Rattle.tierra_model.specs.World.{World, front}
use Rattle.tierra_model.specs.Room.{is_owned}
use Rattle.tierra_model.specs.Sound.{owners, owners_of}
use Rattle.tierra_model.specs.FreeList.{free_list}
use Rattle.tierra_model.specs.Yard.{yard}
use Rattle.tierra_model.specs.Scene.{Scene}
use Rattle.tierra_model.specs.SceneRun.{SceneRun, scene_machine}
use Rattle.tierra_model.specs.Log.{Log, log_machine}
use Rattle.tierra_model.specs.Replay.{CanHappen}
use Rattle.tierra_model.proofs.Owners.{is_owned-owners}
use Rattle.tierra_model.proofs.Free.{AlikeBelow, room_for_free}
use Rattle.tierra_model.proofs.Yards.{stands_as, place_of_first_other-renamed, number_of_others-renamed}
use Rattle.tierra_model.proofs.EachOnce.{owners-put}
use Rattle.tierra_model.proofs.AnyMachine.{block_in, place_of_first_other-is}
use Rattle.tierra_model.proofs.SceneCells.{with_event}
use Rattle.tierra_model.proofs.Mirrors.{KnowsYard}
use Rattle.tierra_model.proofs.Simulation.{IsDone}
use Rattle.tierra_model.proofs.Follows.{Follows, follows-front, follows-event}

module _ (w : World) (start : Scene) where
  abbrev pub SameFree : Type 0
  SameFree = start.free ≡ free_list w

  abbrev pub SameYard : Type 0
  SameYard = start.yard ≡ yard w

  -- ---- where a block fits

  is_owned-put : (x : SceneRun) (l : Log) (f : Follows w start x l) (p : ℕ) → is_owned l.now.living p ≡ is_owned f.before.living p
  is_owned-put x l f p =
      let v : World = f.before in
      let c : Creature = x.now.front in
      let m = f.mirrors in
      let own : owners_of c p ≡ owners_of (front v) p =
      (λ i. let n : ℕ = one_if (is_in (m.fits.own i) p) + one_if (is_in_daughter (m.fits.daughter i) p) in n) in
      let sum : owners (with_record c v.living) p ≡ owners v.living p = omega (arith, owners-put c v p m.has_front m.each_once.once m.number, own) in
      ap (λ (u : World). is_owned u.living p) f.same
      ∙ is_owned-owners (with_record c v.living) p ∙ ap (λ (n : ℕ). nat_lt 0 n) sum ∙ sym (is_owned-owners v.living p)

  free-shown : (x : SceneRun) (l : Log) (f : Follows w start x l) → SameFree
      → AlikeBelow w.settings.soup_size (scene_machine.owned x) (λ p. is_owned f.before.living p)
  free-shown x l f h = f.mirrors.free (ap (λ (t : Scene). t.free) f.began ∙ h)

  pub follows-owned : (x : SceneRun) (l : Log) → Follows w start x l → SameFree → AlikeBelow w.settings.soup_size (scene_machine.owned x) (log_machine.owned l)
  follows-owned x l f h q k = free-shown x l f h q k ∙ sym (is_owned-put x l f q)

  -- ---- who is reaped

  map-map : {X Y Z : Type 0} (g : Y → Z) (f : X → Y) (xs : List X) → map g (map f xs) ≡ map (λ x. g (f x)) xs
  map-map g f [] = refl
  map-map g f (x ∷ xs) = ap (λ (l : List _). g (f x) ∷ l) (map-map g f xs)

  yard-shown : (x : SceneRun) (l : Log) (f : Follows w start x l) → SameYard → x.now.yard ≡ map (stands_as w.next_birth f.before.living) f.before.reaper
  yard-shown x l f h = f.mirrors.yard (ap (λ (t : Scene). t.yard) f.began ∙ h)

  pub follows-victim : (s : Settings) (x : SceneRun) (l : Log) → Follows w start x l → SameYard → victim scene_machine s x ≡ victim log_machine s l
  follows-victim s x l f h =
      let m = f.mirrors in
      ap (λ (y : List Standing). place_of_first_other x.now.front.id (map (λ (t : Standing). t.id) y)) (yard-shown x l f h)
      ∙ ap (place_of_first_other x.now.front.id) (map-map (λ (t : Standing). t.id) (stands_as w.next_birth f.before.living) f.before.reaper)
      ∙ place_of_first_other-renamed w.next_birth x.now.front.id f.before.reaper m.old (omega (arith, m.old, m.small))
      ∙ ap (λ (u : World). place_of_first_other x.now.front.id u.reaper) (sym f.same)
      ∙ ap (λ (c : Creature). place_of_first_other c.id l.now.reaper) (sym (follows-front w start x l f))

  pub follows-others : (x : SceneRun) (l : Log) → Follows w start x l → SameYard
      → number_of_others (scene_machine.front x).id (scene_machine.reaper x) ≡ number_of_others (log_machine.front l).id (log_machine.reaper l)
  follows-others x l f h =
      let m = f.mirrors in
      ap (λ (y : List Standing). number_of_others x.now.front.id (map (λ (t : Standing). t.id) y)) (yard-shown x l f h)
      ∙ ap (number_of_others x.now.front.id) (map-map (λ (t : Standing). t.id) (stands_as w.next_birth f.before.living) f.before.reaper)
      ∙ number_of_others-renamed w.next_birth x.now.front.id f.before.reaper m.old (omega (arith, m.old, m.small))
      ∙ ap (λ (u : World). number_of_others x.now.front.id u.reaper) (sym f.same)
      ∙ ap (λ (c : Creature). number_of_others c.id l.now.reaper) (sym (follows-front w start x l f))

  pub follows-number : (x : SceneRun) (l : Log) → Follows w start x l → SameYard → length (scene_machine.reaper x) ≡ length (log_machine.reaper l)
  follows-number x l f h =
      ap (λ (y : List Standing). length (map (λ (t : Standing). t.id) y)) (yard-shown x l f h)
      ∙ length-map (map (stands_as w.next_birth f.before.living) f.before.reaper)
      (λ (t : Standing). t.id) ∙ length-map f.before.reaper (stands_as w.next_birth f.before.living)
      ∙ ap (λ (u : World). length u.reaper) (sym f.same)

  -- ---- what is done can happen

  can-happen : (e : Event) (x : SceneRun) (l : Log) (f : Follows w start x l) → IsDone scene_machine w.settings SameFree SameYard x e → CanHappen f.before e
  can-happen (event.Write at value) x l f d = (subst (λ s. at < s.soup_size) (sym f.mirrors.settings) d.0, d.1)
  can-happen event.Err x l f d = tt
  can-happen event.Good x l f d = tt
  can-happen event.GiveUp x l f d = subst IsSome f.mirrors.fits.daughter d
  can-happen (event.Mal at size) x l f d =
      let fits = room_for_free w.settings (scene_machine.owned x) size at d.4 in (
        sym f.mirrors.fits.daughter ∙ d.3,
        (d.0, d.1, subst (λ (s : Settings). at + size ≤ s.soup_size) (sym f.mirrors.settings) fits.0),
        (λ q e. let b = block_in at size q e in sym (free-shown x l f d.2 q (omega (arith, b.1, fits.0))) ∙ fits.1 q b.0 b.1),
      )
  can-happen (event.Reap place) x l f d =
      let is = place_of_first_other-is (front l.now).id l.now.reaper place (sym (follows-victim w.settings x l f d.0) ∙ d.1) in (
        subst (λ n. place < n) (ap (λ (u : World). length u.reaper) f.same) is.0,
        (λ a. is.1 (ap (λ (u : World). slice_index u.reaper place) f.same ∙ a ∙ sym f.mirrors.fits.id
            ∙ sym (ap (λ (c : Creature). c.id) (follows-front w start x l f)))),
      )
  can-happen (event.Divide ran moved) x l f d = (subst IsSome f.mirrors.fits.daughter d.0, d.1)

  knows-yard : (e : Event) (x : SceneRun) (l : Log) (f : Follows w start x l) → IsDone scene_machine w.settings SameFree SameYard x e → KnowsYard w x e
  knows-yard (event.Reap place) x l f d = ap (λ (t : Scene). t.yard) f.began ∙ d.0
  knows-yard _ x l f d = tt

  pub follows-done : (e : Event) (x : SceneRun) (l : Log) → Follows w start x l → IsDone scene_machine w.settings SameFree SameYard x e
      → Follows w start (with_event x e) (log_machine.apply l e)
  follows-done e x l f d = follows-event w start e x l f (can-happen e x l f d) (knows-yard e x l f d)
