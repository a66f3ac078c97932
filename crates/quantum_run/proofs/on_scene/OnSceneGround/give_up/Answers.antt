use Rattle.std.proofs.Common.{◌≡◌, ◌+◌, ◌-◌, List, ℕ, length, refl, sym, ◌∙◌, ap, subst, arith}
use Rattle.std.specs.Prelude.{Option, Some, None, IfSome, is_some, ◌||◌}
use Rattle.tierra_model.specs.declared.creatures.Block.{Block}
use Rattle.tierra_model.specs.declared.creatures.Creature.{Creature}
use Rattle.tierra_model.specs.declared.creatures.Standing.{Standing}
use Rattle.tierra_model.specs.declared.events.Event.TheVariants as event
use Rattle.tierra_model.specs.Ranges.{IsBlock}
use Rattle.tierra_model.specs.Blocks.{is_in}
use Rattle.tierra_model.specs.FreeList.{is_in_some, runs_of}
use Rattle.tierra_model.specs.Events.{record_after}
use Rattle.tierra_model.specs.SceneRun.{SceneRun, scene_machine}
use Rattle.tierra_model.specs.Yard.{standing}
use Rattle.tierra_model.proofs.Each.{Each}
use Rattle.quantum_run.specs.OnScene.{FrontReady, IsShown, SceneFields, SceneReady, StandsIn}
use Rattle.quantum_run.specs.Seen.{CellsFields}
use Rattle.quantum_run.proofs.Happening.{fields_from, give_up_now, happen, ready-event, run_from}
use Rattle.quantum_run.proofs.Owning.{daughter_owned}
use Rattle.quantum_run.proofs.Yarding.{each-show, length-show}
use Rattle.quantum_run.proofs.on_scene.OnSceneGround.give_up.Goals as goal

pub give_back-requires-clause-owned : goal.give_back-requires-clause-owned
give_back-requires-clause-owned c = λ p here.
    let i = c.self.inside in
    let x : SceneRun =
    run_from i.job.now i.front i.cells.now i.free.free i.yard.items i.cells.reads.cells i.free_noted i.yard_noted i.events.items i.newborns in
    let b : Block = c.unwrap-block.result in
    let held : i.front.daughter ≡ Some b = c.unwrap-block.ensures in
    let r = subst (λ (v : SceneFields). SceneReady v 1) (sym c.self.view_is) c.requires.ready in
    let lies : IsBlock i.free.size b = subst (λ (o : Option Block). IfSome o (IsBlock i.free.size)) held r.front.daughter in
    daughter_owned x r.shadows b p held (omega (arith, lies.2, r.size)) here

pub returns-clause-state : goal.returns-clause-state
returns-clause-state c =
    let i = c.self.inside in
    let x : SceneRun =
    run_from i.job.now i.front i.cells.now i.free.free i.yard.items i.cells.reads.cells i.free_noted i.yard_noted i.events.items i.newborns in
    let b : Block = c.unwrap-block.result in
    let held : i.front.daughter ≡ Some b = c.unwrap-block.ensures in
    let d : Creature = c.give_up.new.self in
    let his : d ≡ record_after event.GiveUp i.front = c.give_up.ensures in
    let q : CellsFields = record i.cells { daughter = None } in
    let r = subst (λ (v : SceneFields). SceneReady v 1) (sym c.self.view_is) c.requires.ready in
    let frees : c.give_back.new.self.free ≡ runs_of i.job.now.settings.soup_size (λ p. is_in_some i.free.free p || is_in b p) =
    c.give_back.ensures.free ∙ ap (λ (k : ℕ). runs_of k (λ p. is_in_some i.free.free p || is_in b p)) r.size in
    ap (λ (z : CellsFields). run_from i.job.now d z.now c.give_back.new.self.free c.show.new.self.items z.reads.cells i.free_noted i.yard_noted
    c.push_reserved.new.self.items i.newborns) c.set_daughter.ensures
    ∙ happen x event.GiveUp _ c.push_reserved.new.self.items i.newborns
    (give_up_now x.now x.newborns b d c.give_back.new.self.free c.show.new.self.items held his frees c.show.ensures.items) c.push_reserved.ensures.items
    (omega arith)
    ∙ ap (λ (v : SceneFields). scene_machine.apply v.run event.GiveUp) c.self.view_is

pub returns-clause-ready : goal.returns-clause-ready
returns-clause-ready c = λ n h.
    let i = c.self.inside in
    let x : SceneRun =
    run_from i.job.now i.front i.cells.now i.free.free i.yard.items i.cells.reads.cells i.free_noted i.yard_noted i.events.items i.newborns in
    let b : Block = c.unwrap-block.result in
    let held : i.front.daughter ≡ Some b = c.unwrap-block.ensures in
    let d : Creature = c.give_up.new.self in
    let his : d ≡ record_after event.GiveUp i.front = c.give_up.ensures in
    let q : CellsFields = record i.cells { daughter = None } in
    let r = subst (λ (v : SceneFields). SceneReady v (n + 1)) (sym c.self.view_is) h in
    let frees : c.give_back.new.self.free ≡ runs_of i.job.now.settings.soup_size (λ p. is_in_some i.free.free p || is_in b p) =
    c.give_back.ensures.free ∙ ap (λ (k : ℕ). runs_of k (λ p. is_in_some i.free.free p || is_in b p)) r.size in
    let f = r.front in
    let place : StandsIn i.free.size (standing d) = subst (λ (a : Creature). StandsIn i.free.size (standing a)) (sym his)
    (record { own = f.own; daughter = tt }) in
    let shown = c.show.ensures.items in
    let long : length c.show.new.self.items ≡ length i.yard.items = ap length shown ∙ length-show d i.yard.items in
    subst (λ (z : CellsFields). SceneReady (fields_from i.job.now d z c.give_back.new.self c.show.new.self.items i.free_noted i.yard_noted
    c.push_reserved.new.self.items i.newborns
    (c.push_reserved.new.self.cap - c.push_reserved.new.self.len) (c.show.new.self.room)) n) (sym c.set_daughter.ensures)
    (ready-event event.GiveUp _ _ (n + 1) n (λ p. refl) r (record {
      run = happen x event.GiveUp _ c.push_reserved.new.self.items i.newborns
          (give_up_now x.now x.newborns b d c.give_back.new.self.free c.show.new.self.items held his frees c.show.ensures.items) c.push_reserved.ensures.items
          (omega arith);
      happens = ap (λ (o : Option Block). is_some o) held;
      start = refl;
      soup = refl;
      known = refl;
      size = c.give_back.ensures.size;
      own = r.own ∙ sym (ap (λ (a : Creature). a.own) his);
      daughter = sym (ap (λ (a : Creature). a.daughter) his);
      yard = subst (λ (k : ℕ). Each (IsShown k d) c.show.new.self.items) (sym c.give_back.ensures.size)
          (subst (λ (l : List Standing). Each (IsShown i.free.size d) l) (sym shown)
          (each-show i.free.size i.front d i.yard.items (ap (λ (a : Creature). a.id) his) place r.yard));
      front = subst (λ (k : ℕ). FrontReady k n d) (sym c.give_back.ensures.size)
          (subst (FrontReady i.free.size n) (sym his) (record {
            ip = f.ip;
            sp = f.sp;
            own = f.own;
            daughter = tt;
            errors = omega (arith, f.errors);
            moved = omega (arith, f.moved);
            ran = omega (arith, f.ran);
            bred = omega (arith, f.bred);
          }));
      newborns = omega (arith, r.newborns);
      few = omega (arith, r.few, long);
      events_room = omega (arith, r.events_room, long, c.push_reserved.ensures.len, c.push_reserved.ensures.capacity);
      yard_room = omega (arith, r.yard_room, c.show.ensures.room);
      blocks_room = omega (arith, r.blocks_room, long, c.give_back.ensures.room);
    }))
