use Rattle.std.proofs.Common.{◌≡◌, ◌+◌, ◌-◌, ◌≤◌, ◌++◌, ◌∷◌, [], List, ℕ, true, length, refl, sym, ◌∙◌, ap, subst, arith}
use Rattle.std.specs.Prelude.{Option, Some, None, IfSome, is_some}
use Rattle.tierra_model.specs.declared.creatures.Block.{Block}
use Rattle.tierra_model.specs.declared.creatures.Creature.{Creature}
use Rattle.tierra_model.specs.declared.creatures.Standing.{Standing}
use Rattle.tierra_model.specs.declared.events.Event.TheVariants as event
use Rattle.tierra_model.specs.Ranges.{IsBlock}
use Rattle.tierra_model.specs.Events.{record_after}
use Rattle.tierra_model.specs.SceneRun.{SceneRun, scene_machine}
use Rattle.tierra_model.specs.Yard.{standing}
use Rattle.tierra_model.proofs.Each.{Each}
use Rattle.quantum_run.specs.OnScene.{FrontReady, IsShown, SceneFields, SceneReady, StandsIn}
use Rattle.std.proofs.lemmas.List.{length-append}
use Rattle.tierra_model.specs.Yard.{stand_in}
use Rattle.quantum_run.specs.Seen.{CellsFields}
use Rattle.quantum_run.proofs.Happening.{bear_now, fields_from, happen, ready-event, run_from}
use Rattle.quantum_run.proofs.Yarding.{each-push, each-show, length-show}
use Rattle.quantum_run.proofs.on_scene.OnSceneGround.bear.Goals as goal

pub divide_done-requires : goal.divide_done-requires
divide_done-requires c =
    let r = subst (λ (v : SceneFields). SceneReady v 2) (sym c.self.view_is) c.requires.ready in
    omega (arith, r.front.bred)

pub returns-clause-state : goal.returns-clause-state
returns-clause-state c =
    let i = c.self.inside in
    let x : SceneRun =
    run_from i.job.now i.front i.cells.now i.free.free i.yard.items i.cells.reads.cells i.free_noted i.yard_noted i.events.items i.newborns in
    let b : Block = c.unwrap-own.result in
    let held : i.front.daughter ≡ Some b = c.unwrap-own.ensures in
    let d : Creature = c.divide_done.new.creature in
    let his : d ≡ record_after (event.Divide i.front.ran i.front.moved) i.front = c.divide_done.ensures in
    let q : CellsFields = record i.cells { daughter = None } in
    let new : Standing = record { id = stand_in (i.newborns + 1); errors = 0; own = b; daughter = None } in
    let births : c.push.new.self.items ≡ i.yard.items ++ new ∷ [] = c.push.ensures.items
    ∙ ap (λ (k : ℕ). i.yard.items ++ (let s : Standing = record { id = k; errors = 0; own = b; daughter = None } in s) ∷ []) c.number_of_newborn.ensures in
    ap (λ (z : CellsFields). run_from i.job.now d z.now i.free.free c.show.new.self.items z.reads.cells i.free_noted i.yard_noted
    c.push_reserved.new.self.items (i.newborns + 1)) c.set_daughter.ensures
    ∙ happen x (event.Divide i.front.ran i.front.moved) _ c.push_reserved.new.self.items (i.newborns + 1)
    (bear_now x.now x.newborns i.front.ran i.front.moved b d c.push.new.self.items c.show.new.self.items held his births c.show.ensures.items)
    c.push_reserved.ensures.items refl
    ∙ ap (λ (v : SceneFields). scene_machine.apply v.run (event.Divide v.run.now.front.ran v.run.now.front.moved)) c.self.view_is

pub returns-clause-ready : goal.returns-clause-ready
returns-clause-ready c = λ n h.
    let i = c.self.inside in
    let x : SceneRun =
    run_from i.job.now i.front i.cells.now i.free.free i.yard.items i.cells.reads.cells i.free_noted i.yard_noted i.events.items i.newborns in
    let b : Block = c.unwrap-own.result in
    let held : i.front.daughter ≡ Some b = c.unwrap-own.ensures in
    let d : Creature = c.divide_done.new.creature in
    let his : d ≡ record_after (event.Divide i.front.ran i.front.moved) i.front = c.divide_done.ensures in
    let q : CellsFields = record i.cells { daughter = None } in
    let new : Standing = record { id = stand_in (i.newborns + 1); errors = 0; own = b; daughter = None } in
    let births : c.push.new.self.items ≡ i.yard.items ++ new ∷ [] = c.push.ensures.items
    ∙ ap (λ (k : ℕ). i.yard.items ++ (let s : Standing = record { id = k; errors = 0; own = b; daughter = None } in s) ∷ []) c.number_of_newborn.ensures in
    let r = subst (λ (v : SceneFields). SceneReady v (n + 2)) (sym c.self.view_is) h in
    let f = r.front in
    let m = r.shadows.follows.mirrors in
    let lies : IsBlock i.free.size b = subst (λ (o : Option Block). IfSome o (IsBlock i.free.size)) held f.daughter in
    let place : StandsIn i.free.size (standing d) = subst (λ (a : Creature). StandsIn i.free.size (standing a)) (sym his)
    (record { own = f.own; daughter = tt }) in
    let young : IsShown i.free.size i.front new = record {
      placed = record { own = lies; daughter = tt };
      his =
          λ e. absurd (omega (arith, e, m.old, m.small));
    } in
    let pushed : Each (IsShown i.free.size i.front) c.push.new.self.items =
    subst (λ (l : List Standing). Each (IsShown i.free.size i.front) l) (sym births)
    (each-push (IsShown i.free.size i.front) (λ y. true) (λ y. 0) i.yard.items new r.yard young) in
    let shown = c.show.ensures.items in
    let long : length c.show.new.self.items ≡ length i.yard.items + 1 =
    ap length shown ∙ length-show d c.push.new.self.items ∙ ap length births ∙ length-append i.yard.items (new ∷ []) in
    let ran : 1 ≤ i.front.ran = subst (λ (v : SceneFields). 1 ≤ v.run.now.front.ran) (sym c.self.view_is) c.requires.ran in
    subst (λ (z : CellsFields). SceneReady (fields_from i.job.now d z i.free c.show.new.self.items i.free_noted i.yard_noted c.push_reserved.new.self.items
    (i.newborns + 1)
    (c.push_reserved.new.self.cap - c.push_reserved.new.self.len) (c.show.new.self.room)) n) (sym c.set_daughter.ensures)
    (ready-event (event.Divide i.front.ran i.front.moved) _ _ (n + 2) n (λ p. refl) r (record {
      run = happen x (event.Divide i.front.ran i.front.moved) _ c.push_reserved.new.self.items (i.newborns + 1)
          (bear_now x.now x.newborns i.front.ran i.front.moved b d c.push.new.self.items c.show.new.self.items held his births c.show.ensures.items)
          c.push_reserved.ensures.items refl;
      happens = (ap (λ (o : Option Block). is_some o) held, ran);
      start = refl;
      soup = refl;
      known = refl;
      size = refl;
      own = r.own ∙ sym (ap (λ (a : Creature). a.own) his);
      daughter = sym (ap (λ (a : Creature). a.daughter) his);
      yard = subst (λ (l : List Standing). Each (IsShown i.free.size d) l) (sym shown)
          (each-show i.free.size i.front d c.push.new.self.items (ap (λ (a : Creature). a.id) his) place pushed);
      front = subst (FrontReady i.free.size n) (sym his)
          (record {
            ip = f.ip;
            sp = f.sp;
            own = f.own;
            daughter = tt;
            errors = omega (arith, f.errors);
            moved = omega (arith, f.moved);
            ran = omega (arith, f.ran);
            bred = omega (arith, f.bred);
          });
      newborns = omega (arith, r.newborns);
      few = omega (arith, r.few, long);
      events_room = omega (arith, r.events_room, long, c.push_reserved.ensures.len, c.push_reserved.ensures.capacity);
      yard_room = omega (arith, r.yard_room, c.push.ensures.room, c.show.ensures.room);
      blocks_room = omega (arith, r.blocks_room, long);
    }))
