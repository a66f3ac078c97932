use Rattle.std.proofs.Common.{◌≡◌, ◌+◌, List, length, refl, sym, ◌∙◌, ap, subst, arith}
use Rattle.tierra_model.specs.declared.creatures.Standing.{Standing}
use Rattle.tierra_model.specs.declared.events.Event.TheVariants as event
use Rattle.tierra_model.specs.SceneRun.{SceneRun, scene_machine}
use Rattle.tierra_model.specs.Yard.{is_standing_of}
use Rattle.tierra_model.proofs.Each.{Each}
use Rattle.quantum_run.specs.OnScene.{IsShown, SceneFields, SceneReady}
use Rattle.quantum_run.specs.ReadyLaws.{front_fewer}
use Rattle.quantum_run.proofs.Happening.{good_now, happen, ready-event, run_from}
use Rattle.quantum_run.proofs.Yarding.{each-good_move, length-good_move}
use Rattle.quantum_run.proofs.on_scene.OnSceneGround.good.Goals as goal

pub returns-clause-state : goal.returns-clause-state
returns-clause-state c =
    let i = c.self.inside in
    let x : SceneRun =
    run_from i.job.now i.front i.cells.now i.free.free i.yard.items i.cells.reads.cells i.free_noted i.yard_noted i.events.items i.newborns in
    happen x event.Good _ c.push_reserved.new.self.items i.newborns (good_now x.now x.newborns c.move_down.new.self.items c.move_down.ensures.items)
    c.push_reserved.ensures.items (omega arith)
    ∙ ap (λ (v : SceneFields). scene_machine.apply v.run event.Good) c.self.view_is

pub returns-clause-ready : goal.returns-clause-ready
returns-clause-ready c = λ n h.
    let i = c.self.inside in
    let x : SceneRun =
    run_from i.job.now i.front i.cells.now i.free.free i.yard.items i.cells.reads.cells i.free_noted i.yard_noted i.events.items i.newborns in
    let r = subst (λ (v : SceneFields). SceneReady v (n + 1)) (sym c.self.view_is) h in
    let moved = c.move_down.ensures.items in
    let long : length c.move_down.new.self.items ≡ length i.yard.items =
    ap length moved ∙ length-good_move (λ x. Unit {0}) (is_standing_of i.front) (λ x. x.errors) i.yard.items in
    ready-event event.Good _ _ (n + 1) n (λ p. refl) r (record {
      run = happen x event.Good _ c.push_reserved.new.self.items i.newborns (good_now x.now x.newborns c.move_down.new.self.items moved)
          c.push_reserved.ensures.items (omega arith);
      happens = tt;
      start = refl;
      soup = refl;
      known = refl;
      size = refl;
      own = r.own;
      daughter = r.daughter;
      yard = subst (λ (l : List Standing). Each (IsShown i.free.size i.front) l) (sym moved)
          (each-good_move (IsShown i.free.size i.front) (is_standing_of i.front) (λ x. x.errors) i.yard.items r.yard);
      front = front_fewer i.free.size n (n + 1) i.front (omega arith) r.front;
      newborns = omega (arith, r.newborns);
      few = omega (arith, r.few, long);
      events_room = omega (arith, r.events_room, long, c.push_reserved.ensures.len, c.push_reserved.ensures.capacity);
      yard_room = omega (arith, r.yard_room, c.move_down.ensures.room);
      blocks_room = omega (arith, r.blocks_room, long);
    })
