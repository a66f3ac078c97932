use Rattle.std.proofs.Common.{◌≡◌, ◌+◌, ◌-◌, List, ℕ, Bool, true, false, length, refl, sym, ◌∙◌, ap, subst, arith}
use Rattle.std.specs.Prelude.{Some, None, ◌&&◌, not}
use Rattle.tierra_model.specs.declared.creatures.Block.{Block}
use Rattle.tierra_model.specs.declared.creatures.Creature.{Creature}
use Rattle.tierra_model.specs.declared.creatures.Standing.{Standing}
use Rattle.tierra_model.specs.declared.events.Event.TheVariants as event
use Rattle.tierra_model.specs.Events.{record_after}
use Rattle.tierra_model.specs.Ranges.{IsBlock}
use Rattle.tierra_model.specs.Blocks.{is_in}
use Rattle.tierra_model.specs.FreeList.{is_in_some, runs_of}
use Rattle.tierra_model.specs.SceneRun.{SceneRun, scene_machine}
use Rattle.tierra_model.specs.Yard.{standing}
use Rattle.tierra_model.proofs.Each.{Each}
use Rattle.quantum_run.specs.OnScene.{FrontReady, IsShown, SceneFields, SceneReady, StandsIn}
use Rattle.tierra_model.specs.Room.{room_for}
use Rattle.tierra_model.proofs.AnyMachine.{block_in}
use Rattle.tierra_model.proofs.Free.{room_for_free}
use Rattle.quantum_run.specs.Seen.{CellsFields}
use Rattle.quantum_run.proofs.Happening.{fields_from, happen, ready-event, run_from, take_now}
use Rattle.quantum_run.proofs.Yarding.{each-show, length-show}
use Rattle.quantum_run.proofs.on_scene.OnSceneGround.take.Goals as goal

is_free : (f : Bool) → not f ≡ false → f ≡ true
is_free true h = refl
is_free false h = cc

pub take-requires-clause-free : goal.take-requires-clause-free
take-requires-clause-free c = λ p here.
    let i = c.self.inside in
    let x : SceneRun =
    run_from i.job.now i.front i.cells.now i.free.free i.yard.items i.cells.reads.cells i.free_noted i.yard_noted i.events.items i.newborns in
    let b : Block = c.args.block in
    let room : room_for i.job.now.settings (λ p. not (is_in_some i.free.free p)) b.size ≡ Some b.at =
    ap (λ (v : SceneFields). room_for v.run.start.settings (scene_machine.owned v.run) b.size) c.self.view_is ∙ c.requires.room in
    let fits = room_for_free i.job.now.settings (λ p. not (is_in_some i.free.free p)) b.size b.at room in
    let in_block = block_in b.at b.size p here in
    is_free (is_in_some i.free.free p) (fits.1 p in_block.0 in_block.1)

pub mal_done-requires-clause-inside : goal.mal_done-requires-clause-inside
mal_done-requires-clause-inside c = λ taken is.
    let i = c.self.inside in
    let x : SceneRun =
    run_from i.job.now i.front i.cells.now i.free.free i.yard.items i.cells.reads.cells i.free_noted i.yard_noted i.events.items i.newborns in
    let b : Block = c.args.block in
    let room : room_for i.job.now.settings (λ p. not (is_in_some i.free.free p)) b.size ≡ Some b.at =
    ap (λ (v : SceneFields). room_for v.run.start.settings (scene_machine.owned v.run) b.size) c.self.view_is ∙ c.requires.room in
    let fits = room_for_free i.job.now.settings (λ p. not (is_in_some i.free.free p)) b.size b.at room in
    let same : b ≡ taken = cc in
    omega (arith, ap (λ (x : Block). x.at) same, fits.0, i.job.now.settings.soup)

pub mal_done-requires-clause-errors : goal.mal_done-requires-clause-errors
mal_done-requires-clause-errors c =
    let r = subst (λ (v : SceneFields). SceneReady v 1) (sym c.self.view_is) c.requires.ready in
    omega (arith, r.front.errors)

pub returns-clause-state : goal.returns-clause-state
returns-clause-state c =
    let i = c.self.inside in
    let x : SceneRun =
    run_from i.job.now i.front i.cells.now i.free.free i.yard.items i.cells.reads.cells i.free_noted i.yard_noted i.events.items i.newborns in
    let b : Block = c.args.block in
    let d : Creature = c.mal_done.new.creature in
    let his : d ≡ record_after (event.Mal b.at b.size) i.front = c.mal_done.ensures.taken in
    let q : CellsFields = record i.cells { daughter = Some b } in
    let r = subst (λ (v : SceneFields). SceneReady v 1) (sym c.self.view_is) c.requires.ready in
    let frees : c.take.new.self.free ≡ runs_of i.job.now.settings.soup_size (λ p. is_in_some i.free.free p && not (is_in b p)) =
    c.take.ensures.free ∙ ap (λ (k : ℕ). runs_of k (λ p. is_in_some i.free.free p && not (is_in b p))) r.size in
    ap (λ (z : CellsFields). run_from i.job.now d z.now c.take.new.self.free c.show.new.self.items z.reads.cells i.free_noted i.yard_noted
    c.push_reserved.new.self.items i.newborns) c.set_daughter.ensures
    ∙ happen x (event.Mal b.at b.size) _ c.push_reserved.new.self.items i.newborns
    (take_now x.now x.newborns b d c.take.new.self.free c.show.new.self.items his frees c.show.ensures.items) c.push_reserved.ensures.items (omega arith)
    ∙ ap (λ (v : SceneFields). scene_machine.apply v.run (event.Mal b.at b.size)) c.self.view_is

pub returns-clause-ready : goal.returns-clause-ready
returns-clause-ready c = λ n h.
    let i = c.self.inside in
    let x : SceneRun =
    run_from i.job.now i.front i.cells.now i.free.free i.yard.items i.cells.reads.cells i.free_noted i.yard_noted i.events.items i.newborns in
    let b : Block = c.args.block in
    let d : Creature = c.mal_done.new.creature in
    let his : d ≡ record_after (event.Mal b.at b.size) i.front = c.mal_done.ensures.taken in
    let q : CellsFields = record i.cells { daughter = Some b } in
    let room : room_for i.job.now.settings (λ p. not (is_in_some i.free.free p)) b.size ≡ Some b.at =
    ap (λ (v : SceneFields). room_for v.run.start.settings (scene_machine.owned v.run) b.size) c.self.view_is ∙ c.requires.room in
    let fits = room_for_free i.job.now.settings (λ p. not (is_in_some i.free.free p)) b.size b.at room in
    let r = subst (λ (v : SceneFields). SceneReady v (n + 1)) (sym c.self.view_is) h in
    let frees : c.take.new.self.free ≡ runs_of i.job.now.settings.soup_size (λ p. is_in_some i.free.free p && not (is_in b p)) =
    c.take.ensures.free ∙ ap (λ (k : ℕ). runs_of k (λ p. is_in_some i.free.free p && not (is_in b p))) r.size in
    let f = r.front in
    let none : i.front.daughter ≡ None = ap (λ (v : SceneFields). v.run.now.front.daughter) c.self.view_is ∙ c.requires.none in
    let lies : IsBlock i.free.size b = (c.requires.one, c.requires.few, omega (arith, fits.0, r.size)) in
    let e : Creature = record_after (event.Mal b.at b.size) i.front in
    let place : StandsIn i.free.size (standing d) = subst (λ (a : Creature). StandsIn i.free.size (standing a)) (sym his)
    (record { own = f.own; daughter = lies }) in
    let ready : FrontReady i.free.size n d = subst (FrontReady i.free.size n) (sym his)
    (record {
      ip = f.ip;
      sp = f.sp;
      own = f.own;
      daughter = lies;
      errors = omega (arith, f.errors);
      moved = omega (arith, f.moved);
      ran = omega (arith, f.ran);
      bred = omega (arith, f.bred);
    }) in
    let shown = c.show.ensures.items in
    let long : length c.show.new.self.items ≡ length i.yard.items = ap length shown ∙ length-show d i.yard.items in
    subst (λ (z : CellsFields). SceneReady (fields_from i.job.now d z c.take.new.self c.show.new.self.items i.free_noted i.yard_noted
    c.push_reserved.new.self.items i.newborns
    (c.push_reserved.new.self.cap - c.push_reserved.new.self.len) (c.show.new.self.room)) n) (sym c.set_daughter.ensures)
    (ready-event (event.Mal b.at b.size) _ _ (n + 1) n (λ p. refl) r (record {
      run = happen x (event.Mal b.at b.size) _ c.push_reserved.new.self.items i.newborns
          (take_now x.now x.newborns b d c.take.new.self.free c.show.new.self.items his frees c.show.ensures.items) c.push_reserved.ensures.items (omega arith);
      happens = (c.requires.one, c.requires.few, tt, none, room);
      start = refl;
      soup = refl;
      known = refl;
      size = c.take.ensures.size;
      own = r.own ∙ sym (ap (λ (a : Creature). a.own) his);
      daughter = sym (ap (λ (a : Creature). a.daughter) his);
      yard = subst (λ (k : ℕ). Each (IsShown k d) c.show.new.self.items) (sym c.take.ensures.size)
          (subst (λ (l : List Standing). Each (IsShown i.free.size d) l) (sym shown)
          (each-show i.free.size i.front d i.yard.items (ap (λ (a : Creature). a.id) his) place r.yard));
      front = subst (λ (k : ℕ). FrontReady k n d) (sym c.take.ensures.size) ready;
      newborns = omega (arith, r.newborns);
      few = omega (arith, r.few, long);
      events_room = omega (arith, r.events_room, long, c.push_reserved.ensures.len, c.push_reserved.ensures.capacity);
      yard_room = omega (arith, r.yard_room, c.show.ensures.room);
      blocks_room = omega (arith, r.blocks_room, long, c.take.ensures.room);
    }))
