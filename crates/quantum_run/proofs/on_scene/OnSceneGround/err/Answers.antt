use Rattle.std.proofs.Common.{◌≡◌, ◌+◌, List, length, refl, sym, ◌∙◌, ap, subst, arith}
use Rattle.tierra_model.specs.declared.creatures.Creature.{Creature}
use Rattle.tierra_model.specs.declared.creatures.Standing.{Standing}
use Rattle.tierra_model.specs.declared.events.Event.TheVariants as event
use Rattle.tierra_model.specs.Events.{record_after}
use Rattle.tierra_model.specs.SceneRun.{SceneRun, scene_machine}
use Rattle.tierra_model.specs.Yard.{is_standing_of, standing}
use Rattle.tierra_model.proofs.Each.{Each}
use Rattle.quantum_run.specs.OnScene.{FrontReady, IsShown, SceneFields, SceneReady, StandsIn}
use Rattle.quantum_run.proofs.Happening.{err_now, happen, ready-event, run_from}
use Rattle.quantum_run.proofs.Yarding.{each-error_move, each-show, length-error_move, length-show}
use Rattle.quantum_run.proofs.on_scene.OnSceneGround.err.Goals as goal

pub err-requires : goal.err-requires
err-requires c =
    let r = subst (λ (v : SceneFields). SceneReady v 1) (sym c.self.view_is) c.requires in
    omega (arith, r.front.errors)

pub returns-clause-state : goal.returns-clause-state
returns-clause-state c =
    let i = c.self.inside in
    let x : SceneRun =
    run_from i.job.now i.front i.cells.now i.free.free i.yard.items i.cells.reads.cells i.free_noted i.yard_noted i.events.items i.newborns in
    let d : Creature = c.err.new.self in
    let his : d ≡ record_after event.Err i.front = c.err.ensures in
    happen x event.Err _ c.push_reserved.new.self.items i.newborns
    (err_now x.now x.newborns d c.show.new.self.items c.move_up.new.self.items his c.show.ensures.items c.move_up.ensures.items)
    c.push_reserved.ensures.items (omega arith)
    ∙ ap (λ (v : SceneFields). scene_machine.apply v.run event.Err) c.self.view_is

pub returns-clause-ready : goal.returns-clause-ready
returns-clause-ready c = λ n h.
    let i = c.self.inside in
    let x : SceneRun =
    run_from i.job.now i.front i.cells.now i.free.free i.yard.items i.cells.reads.cells i.free_noted i.yard_noted i.events.items i.newborns in
    let d : Creature = c.err.new.self in
    let his : d ≡ record_after event.Err i.front = c.err.ensures in
    let r = subst (λ (v : SceneFields). SceneReady v (n + 1)) (sym c.self.view_is) h in
    let f = r.front in
    let place : StandsIn i.free.size (standing d) = subst (λ (a : Creature). StandsIn i.free.size (standing a)) (sym his)
    (record { own = f.own; daughter = f.daughter }) in
    let shown = c.show.ensures.items in
    let moved = c.move_up.ensures.items in
    let long : length c.move_up.new.self.items ≡ length i.yard.items =
    ap length moved ∙ length-error_move (λ x. Unit {0}) (is_standing_of d)
    (λ x. x.errors) c.show.new.self.items ∙ ap length shown ∙ length-show d i.yard.items in
    let each : Each (IsShown i.free.size d) c.show.new.self.items =
    subst (λ (l : List Standing). Each (IsShown i.free.size d) l) (sym shown)
    (each-show i.free.size i.front d i.yard.items (ap (λ (a : Creature). a.id) his) place r.yard) in
    ready-event event.Err _ _ (n + 1) n (λ p. refl) r (record {
      run = happen x event.Err _ c.push_reserved.new.self.items i.newborns
          (err_now x.now x.newborns d c.show.new.self.items c.move_up.new.self.items his shown moved) c.push_reserved.ensures.items (omega arith);
      happens = tt;
      start = refl;
      soup = refl;
      known = refl;
      size = refl;
      own = r.own ∙ sym (ap (λ (a : Creature). a.own) his);
      daughter = r.daughter ∙ sym (ap (λ (a : Creature). a.daughter) his);
      yard = subst (λ (l : List Standing). Each (IsShown i.free.size d) l) (sym moved)
          (each-error_move (IsShown i.free.size d) (is_standing_of d) (λ x. x.errors) c.show.new.self.items each);
      front = subst (FrontReady i.free.size n) (sym his)
          (record {
            ip = f.ip;
            sp = f.sp;
            own = f.own;
            daughter = f.daughter;
            errors = omega (arith, f.errors);
            moved = omega (arith, f.moved);
            ran = omega (arith, f.ran);
            bred = omega (arith, f.bred);
          });
      newborns = omega (arith, r.newborns);
      few = omega (arith, r.few, long);
      events_room = omega (arith, r.events_room, long, c.push_reserved.ensures.len, c.push_reserved.ensures.capacity);
      yard_room = omega (arith, r.yard_room, c.show.ensures.room, c.move_up.ensures.room);
      blocks_room = omega (arith, r.blocks_room, long);
    })
