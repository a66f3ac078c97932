use Rattle.std.proofs.Common.{◌≡◌, ◌+◌, ◌<◌, List, ℕ, true, length, refl, sym, ◌∙◌, ap, subst, arith}
use Rattle.std.specs.Prelude.{Option, Some, None, IfSome, ◌||◌}
use Rattle.tierra_model.specs.declared.creatures.Block.{Block}
use Rattle.tierra_model.specs.declared.creatures.Standing.{Standing}
use Rattle.tierra_model.specs.declared.events.Event.TheVariants as event
use Rattle.tierra_model.specs.Ranges.{IsBlock}
use Rattle.tierra_model.specs.Blocks.{is_in, is_in_daughter}
use Rattle.tierra_model.specs.FreeList.{is_in_some, runs_of}
use Rattle.tierra_model.specs.SceneRun.{SceneRun, scene_machine}
use Rattle.tierra_model.proofs.Each.{Each}
use Rattle.quantum_run.specs.OnScene.{FrontReady, IsShown, SceneFields, SceneReady, StandsIn}
use Rattle.std.specs.Prelude.{map, slice_index_or}
use Rattle.std.proofs.lemmas.Bool.Decides.{nat_tests}
use Rattle.std.proofs.lemmas.List.{get_or_read, length-map}
use Rattle.tierra_model.specs.Quantum.{victim}
use Rattle.tierra_model.specs.Queue.{without_place}
use Rattle.tierra_model.specs.Yard.{no_standing}
use Rattle.tierra_model.proofs.AnyMachine.{place_of_first_other-is}
use Rattle.quantum_run.proofs.Happening.{happen, ready-event, reap_now, run_from}
use Rattle.quantum_run.proofs.Owning.{daughter_then, own_owned}
use Rattle.quantum_run.proofs.Yarding.{each-at, each-without_place, length-without_place, remove-is}
use Rattle.quantum_run.proofs.on_scene.OnSceneGround.reap.Goals as goal

in_daughter : (n p : ℕ) (o : Option Block) → IfSome o (IsBlock n) → is_in_daughter o p ≡ true → p < n
in_daughter n p None h e = cc
in_daughter n p (Some b) h e = grind (arith, nat_tests, h.2)

pub remove-dead-requires : goal.remove-dead-requires
remove-dead-requires c =
    let i = c.self.inside in
    let x : SceneRun =
    run_from i.job.now i.front i.cells.now i.free.free i.yard.items i.cells.reads.cells i.free_noted i.yard_noted i.events.items i.newborns in
    let e : victim scene_machine i.job.now.settings x ≡ Some c.args.place =
    ap (λ (v : SceneFields). victim scene_machine v.run.start.settings v.run) c.self.view_is ∙ c.requires.victim in
    let within : c.args.place < length i.yard.items =
    omega (
      arith,
      (place_of_first_other-is i.front.id (map (λ (t : Standing). t.id) i.yard.items) c.args.place e).0,
      length-map i.yard.items
          (λ (t : Standing). t.id),
    ) in
    within

pub give_back-requires : goal.give_back-requires
give_back-requires c =
    let i = c.self.inside in
    let x : SceneRun =
    run_from i.job.now i.front i.cells.now i.free.free i.yard.items i.cells.reads.cells i.free_noted i.yard_noted i.events.items i.newborns in
    let e : victim scene_machine i.job.now.settings x ≡ Some c.args.place =
    ap (λ (v : SceneFields). victim scene_machine v.run.start.settings v.run) c.self.view_is ∙ c.requires.victim in
    let within : c.args.place < length i.yard.items =
    omega (
      arith,
      (place_of_first_other-is i.front.id (map (λ (t : Standing). t.id) i.yard.items) c.args.place e).0,
      length-map i.yard.items
          (λ (t : Standing). t.id),
    ) in
    let who : c.remove-dead.result ≡ slice_index_or i.yard.items c.args.place no_standing =
    get_or_read i.yard.items c.args.place c.remove-dead.result within c.remove-dead.ensures.value no_standing in
    let r = subst (λ (v : SceneFields). SceneReady v 0) (sym c.self.view_is) c.requires.ready in
    let placed : StandsIn i.free.size c.remove-dead.result =
    subst (StandsIn i.free.size) (sym who) (each-at (IsShown i.free.size i.front) c.args.place no_standing i.yard.items within r.yard).placed in
    record {
      own = placed.own.2;
      daughter = λ p h. in_daughter i.free.size p c.remove-dead.result.daughter placed.daughter h;
      owned = λ p h. own_owned x r.shadows c.args.place within c.remove-dead.result.own p (ap (λ (t : Standing). t.own) who)
          (omega (arith, placed.own.2, r.size)) h;
      «then» = λ p h. daughter_then x r.shadows c.args.place within c.remove-dead.result.own c.remove-dead.result.daughter i.free.size p r.size
          (ap (λ (t : Standing). t.own) who) (sym (ap (λ (t : Standing). t.daughter) who)) placed.daughter h;
      room = omega (arith, r.blocks_room, within);
    }

pub push_reserved-requires : goal.push_reserved-requires
push_reserved-requires c =
    let i = c.self.inside in
    let x : SceneRun =
    run_from i.job.now i.front i.cells.now i.free.free i.yard.items i.cells.reads.cells i.free_noted i.yard_noted i.events.items i.newborns in
    let e : victim scene_machine i.job.now.settings x ≡ Some c.args.place =
    ap (λ (v : SceneFields). victim scene_machine v.run.start.settings v.run) c.self.view_is ∙ c.requires.victim in
    let within : c.args.place < length i.yard.items =
    omega (
      arith,
      (place_of_first_other-is i.front.id (map (λ (t : Standing). t.id) i.yard.items) c.args.place e).0,
      length-map i.yard.items
          (λ (t : Standing). t.id),
    ) in
    let r = subst (λ (v : SceneFields). SceneReady v 0) (sym c.self.view_is) c.requires.ready in
    omega (arith, r.events_room, within)

pub returns-clause-state : goal.returns-clause-state
returns-clause-state c =
    let i = c.self.inside in
    let x : SceneRun =
    run_from i.job.now i.front i.cells.now i.free.free i.yard.items i.cells.reads.cells i.free_noted i.yard_noted i.events.items i.newborns in
    let e : victim scene_machine i.job.now.settings x ≡ Some c.args.place =
    ap (λ (v : SceneFields). victim scene_machine v.run.start.settings v.run) c.self.view_is ∙ c.requires.victim in
    let within : c.args.place < length i.yard.items =
    omega (
      arith,
      (place_of_first_other-is i.front.id (map (λ (t : Standing). t.id) i.yard.items) c.args.place e).0,
      length-map i.yard.items
          (λ (t : Standing). t.id),
    ) in
    let who : c.remove-dead.result ≡ slice_index_or i.yard.items c.args.place no_standing =
    get_or_read i.yard.items c.args.place c.remove-dead.result within c.remove-dead.ensures.value no_standing in
    let r = subst (λ (v : SceneFields). SceneReady v 0) (sym c.self.view_is) c.requires.ready in
    let frees : c.give_back.new.free.free ≡ runs_of i.job.now.settings.soup_size
    (λ p. is_in_some i.free.free p || (is_in c.remove-dead.result.own p || is_in_daughter c.remove-dead.result.daughter p)) =
    c.give_back.ensures.free
    ∙ ap (λ (k : ℕ). runs_of k (λ p. is_in_some i.free.free p || (is_in c.remove-dead.result.own p || is_in_daughter c.remove-dead.result.daughter p)))
    r.size in
    let left = c.remove-dead.ensures.items ∙ remove-is c.args.place i.yard.items within in
    happen x (event.Reap c.args.place) _ c.push_reserved.new.self.items i.newborns
    (reap_now x.now x.newborns c.args.place c.remove-dead.result c.give_back.new.free.free c.remove-dead.new.self.items who frees left)
    c.push_reserved.ensures.items (omega arith)
    ∙ ap (λ (v : SceneFields). scene_machine.apply v.run (event.Reap c.args.place)) c.self.view_is

pub returns-clause-ready : goal.returns-clause-ready
returns-clause-ready c = λ n h.
    let i = c.self.inside in
    let x : SceneRun =
    run_from i.job.now i.front i.cells.now i.free.free i.yard.items i.cells.reads.cells i.free_noted i.yard_noted i.events.items i.newborns in
    let e : victim scene_machine i.job.now.settings x ≡ Some c.args.place =
    ap (λ (v : SceneFields). victim scene_machine v.run.start.settings v.run) c.self.view_is ∙ c.requires.victim in
    let within : c.args.place < length i.yard.items =
    omega (
      arith,
      (place_of_first_other-is i.front.id (map (λ (t : Standing). t.id) i.yard.items) c.args.place e).0,
      length-map i.yard.items
          (λ (t : Standing). t.id),
    ) in
    let who : c.remove-dead.result ≡ slice_index_or i.yard.items c.args.place no_standing =
    get_or_read i.yard.items c.args.place c.remove-dead.result within c.remove-dead.ensures.value no_standing in
    let r = subst (λ (v : SceneFields). SceneReady v n) (sym c.self.view_is) h in
    let frees : c.give_back.new.free.free ≡ runs_of i.job.now.settings.soup_size
    (λ p. is_in_some i.free.free p || (is_in c.remove-dead.result.own p || is_in_daughter c.remove-dead.result.daughter p)) =
    c.give_back.ensures.free
    ∙ ap (λ (k : ℕ). runs_of k (λ p. is_in_some i.free.free p || (is_in c.remove-dead.result.own p || is_in_daughter c.remove-dead.result.daughter p)))
    r.size in
    let left = c.remove-dead.ensures.items ∙ remove-is c.args.place i.yard.items within in
    let long : length c.remove-dead.new.self.items + 1 ≡ length i.yard.items =
    (let e : length c.remove-dead.new.self.items ≡ length (without_place c.args.place i.yard.items) = ap length left in
    omega (arith, e, length-without_place c.args.place i.yard.items within)) in
    ready-event (event.Reap c.args.place) _ _ n n (λ p. refl) r (record {
      run = happen x (event.Reap c.args.place) _ c.push_reserved.new.self.items i.newborns
          (reap_now x.now x.newborns c.args.place c.remove-dead.result c.give_back.new.free.free c.remove-dead.new.self.items who frees left)
          c.push_reserved.ensures.items (omega arith);
      happens = (tt, e);
      start = refl;
      soup = refl;
      known = refl;
      size = c.give_back.ensures.size;
      own = r.own;
      daughter = r.daughter;
      yard = subst (λ (k : ℕ). Each (IsShown k i.front) c.remove-dead.new.self.items) (sym c.give_back.ensures.size)
          (subst (λ (l : List Standing). Each (IsShown i.free.size i.front) l) (sym left)
          (each-without_place (IsShown i.free.size i.front) (λ y. true) (λ y. 0) c.args.place i.yard.items r.yard));
      front = subst (λ (k : ℕ). FrontReady k n i.front) (sym c.give_back.ensures.size) r.front;
      newborns = omega (arith, r.newborns);
      few = omega (arith, r.few, long);
      events_room = omega (arith, r.events_room, long, c.push_reserved.ensures.len, c.push_reserved.ensures.capacity);
      yard_room = omega (arith, r.yard_room, c.remove-dead.ensures.room);
      blocks_room = omega (arith, r.blocks_room, long, c.give_back.ensures.room);
    })
