use Rattle.std.proofs.Common.{◌≡◌, ◌+◌, ◌-◌, ◌≤◌, ℕ, sym, ◌∙◌, ap, subst, arith}
use Rattle.std.specs.Prelude.{Option, IfSome, ◌||◌}
use Rattle.tierra_model.specs.declared.creatures.Block.{Block}
use Rattle.tierra_model.specs.declared.creatures.Creature.{Creature}
use Rattle.tierra_model.specs.declared.parameters.Settings.{Settings}
use Rattle.tierra_model.specs.Ranges.{IsBlock}
use Rattle.tierra_model.specs.Blocks.{is_in, is_in_daughter}
use Rattle.tierra_model.specs.SceneRun.{SceneRun, scene_machine}
use Rattle.quantum_run.specs.OnScene.{FrontReady, SceneFields, SceneReady}
use Rattle.std.specs.Prelude.{slice_index}
use Rattle.tierra_model.specs.Draw.{word}
use Rattle.tierra_model.specs.Step.{step}
use Rattle.mutation_streams.specs.Draws.{DrawFields, draws_of}
use Rattle.cpu_core.specs.Draws.{with_rates_of}
use Rattle.cpu_core.specs.Executing.{Executes}
use Rattle.quantum_core.specs.Acts.{step_in}
use Rattle.quantum_run.specs.Seen.{CellsFields, cell_looked, cell_written}
use Rattle.quantum_run.proofs.Happening.{fields_from, run_from}
use Rattle.quantum_run.proofs.Stepping.{after_step, fields_after, is_step, left_then, ready_then, scene_codes, start_then}
use Rattle.quantum_run.proofs.Rooms.{roomier}
use Rattle.quantum_run.proofs.on_scene.OnSceneGround.step.Goals as goal

pub step-act-requires-clause-ready : goal.step-act-requires-clause-ready
step-act-requires-clause-ready g c =
    let i = c.self.inside in
    let x : SceneRun =
    run_from i.job.now i.front i.cells.now i.free.free i.yard.items i.cells.reads.cells i.free_noted i.yard_noted i.events.items i.newborns in
    let r = subst (λ (v : SceneFields). SceneReady v 1) (sym c.self.view_is) c.requires.ready in
    let settings : c.args.settings.now ≡ i.job.now.settings = c.requires.settings ∙ sym (ap (λ (v : SceneFields). v.run.start.settings) c.self.view_is) in
    let size : c.args.settings.now.soup_size ≡ i.free.size = ap (λ (z : Settings). z.soup_size) settings ∙ sym r.size in
    record {
      size = r.cells ∙ sym size;
      codes = λ p h. scene_codes x r.shadows p;
      own = λ p h. (λ j. is_in (r.own j) p || is_in_daughter (r.daughter j) p);
      ip = omega (arith, r.front.ip, size);
      sp = r.front.sp;
    }

pub invariant_of-self : goal.invariant_of-self
invariant_of-self g c =
    let i = c.self.inside in
    let x : SceneRun =
    run_from i.job.now i.front i.cells.now i.free.free i.yard.items i.cells.reads.cells i.free_noted i.yard_noted i.events.items i.newborns in
    let s = c.args.settings.now in
    let q : ℕ = i.job.now.quanta + 1 in
    let er : ℕ = i.events.cap - i.events.len in
    let yr : ℕ = i.yard.room in
    let settings : s ≡ i.job.now.settings = c.requires.settings ∙ sym (ap (λ (v : SceneFields). v.run.start.settings) c.self.view_is) in
    let draws : c.args.draws.now ≡ draws_of s q = c.requires.draws ∙ ap (λ (v : SceneFields). draws_of s (v.run.start.quanta + 1)) (sym c.self.view_is) in
    let left : Executes (λ (v : CellsFields) (p : ℕ). slice_index v.now p) cell_looked cell_written (step s (word s.seed q) c.args.i i.front) i.cells
    c.step-act.new.view c.step-act.new.creature c.step-act.result =
    subst (λ (d : DrawFields). Executes (λ (v : CellsFields) (p : ℕ). slice_index v.now p) cell_looked cell_written
    (step (with_rates_of d s) (word d.seed d.quantum) c.args.i i.front) i.cells c.step-act.new.view c.step-act.new.creature c.step-act.result) draws
    c.step-act.ensures.executes in
    let r = subst (λ (v : SceneFields). SceneReady v 1) (sym c.self.view_is) c.requires.ready in
    start_then s (word s.seed q) c.args.i i.cells x i.free.size er yr i.free.spare 1 settings c.self.invariant r c.step-act.new.view c.step-act.new.creature
    c.step-act.result left

pub returns-clause-step : goal.returns-clause-step
returns-clause-step g c =
    let i = c.self.inside in
    let x : SceneRun =
    run_from i.job.now i.front i.cells.now i.free.free i.yard.items i.cells.reads.cells i.free_noted i.yard_noted i.events.items i.newborns in
    let s = c.args.settings.now in
    let q : ℕ = i.job.now.quanta + 1 in
    let er : ℕ = i.events.cap - i.events.len in
    let yr : ℕ = i.yard.room in
    let settings : s ≡ i.job.now.settings = c.requires.settings ∙ sym (ap (λ (v : SceneFields). v.run.start.settings) c.self.view_is) in
    let draws : c.args.draws.now ≡ draws_of s q = c.requires.draws ∙ ap (λ (v : SceneFields). draws_of s (v.run.start.quanta + 1)) (sym c.self.view_is) in
    let left : Executes (λ (v : CellsFields) (p : ℕ). slice_index v.now p) cell_looked cell_written (step s (word s.seed q) c.args.i i.front) i.cells
    c.step-act.new.view c.step-act.new.creature c.step-act.result =
    subst (λ (d : DrawFields). Executes (λ (v : CellsFields) (p : ℕ). slice_index v.now p) cell_looked cell_written
    (step (with_rates_of d s) (word d.seed d.quantum) c.args.i i.front) i.cells c.step-act.new.view c.step-act.new.creature c.step-act.result) draws
    c.step-act.ensures.executes in
    let r = subst (λ (v : SceneFields). SceneReady v 1) (sym c.self.view_is) c.requires.ready in
    let u : CellsFields = c.step-act.new.view in
    let e : Creature = c.step-act.new.creature in
    let a = c.step-act.result in
    let end : (after_step x (u, (e, a)), a) ≡ (
      run_from i.job.now e u.now i.free.free c.do_act.new.yard.items u.reads.cells i.free_noted i.yard_noted
          c.do_act.new.events.items i.newborns,
      a,
    ) =
    (λ j. (
      run_from i.job.now e u.now i.free.free (sym c.do_act.ensures.yard j) u.reads.cells i.free_noted i.yard_noted (sym c.do_act.ensures.events j)
          i.newborns,
      a,
    )) in
    ap (λ (v : SceneFields). step_in scene_machine s (word s.seed (v.run.start.quanta + 1)) c.args.i v.run) (sym c.self.view_is)
    ∙ is_step s (word s.seed q) c.args.i i.cells x i.free.size er yr i.free.spare 1 settings c.self.invariant r c.step-act.new.view c.step-act.new.creature
    c.step-act.result left ∙ end

pub returns-clause-left : goal.returns-clause-left
returns-clause-left g c =
    let i = c.self.inside in
    let x : SceneRun =
    run_from i.job.now i.front i.cells.now i.free.free i.yard.items i.cells.reads.cells i.free_noted i.yard_noted i.events.items i.newborns in
    let s = c.args.settings.now in
    let q : ℕ = i.job.now.quanta + 1 in
    let er : ℕ = i.events.cap - i.events.len in
    let yr : ℕ = i.yard.room in
    let settings : s ≡ i.job.now.settings = c.requires.settings ∙ sym (ap (λ (v : SceneFields). v.run.start.settings) c.self.view_is) in
    let draws : c.args.draws.now ≡ draws_of s q = c.requires.draws ∙ ap (λ (v : SceneFields). draws_of s (v.run.start.quanta + 1)) (sym c.self.view_is) in
    let left : Executes (λ (v : CellsFields) (p : ℕ). slice_index v.now p) cell_looked cell_written (step s (word s.seed q) c.args.i i.front) i.cells
    c.step-act.new.view c.step-act.new.creature c.step-act.result =
    subst (λ (d : DrawFields). Executes (λ (v : CellsFields) (p : ℕ). slice_index v.now p) cell_looked cell_written
    (step (with_rates_of d s) (word d.seed d.quantum) c.args.i i.front) i.cells c.step-act.new.view c.step-act.new.creature c.step-act.result) draws
    c.step-act.ensures.executes in
    let r = subst (λ (v : SceneFields). SceneReady v 1) (sym c.self.view_is) c.requires.ready in
    left_then s (word s.seed q) c.args.i i.cells x i.free.size er yr i.free.spare 1 settings c.self.invariant r c.step-act.new.view c.step-act.new.creature
    c.step-act.result left

pub returns-clause-ready : goal.returns-clause-ready
returns-clause-ready g c = λ n h.
    let i = c.self.inside in
    let x : SceneRun =
    run_from i.job.now i.front i.cells.now i.free.free i.yard.items i.cells.reads.cells i.free_noted i.yard_noted i.events.items i.newborns in
    let s = c.args.settings.now in
    let q : ℕ = i.job.now.quanta + 1 in
    let er : ℕ = i.events.cap - i.events.len in
    let yr : ℕ = i.yard.room in
    let settings : s ≡ i.job.now.settings = c.requires.settings ∙ sym (ap (λ (v : SceneFields). v.run.start.settings) c.self.view_is) in
    let draws : c.args.draws.now ≡ draws_of s q = c.requires.draws ∙ ap (λ (v : SceneFields). draws_of s (v.run.start.quanta + 1)) (sym c.self.view_is) in
    let left : Executes (λ (v : CellsFields) (p : ℕ). slice_index v.now p) cell_looked cell_written (step s (word s.seed q) c.args.i i.front) i.cells
    c.step-act.new.view c.step-act.new.creature c.step-act.result =
    subst (λ (d : DrawFields). Executes (λ (v : CellsFields) (p : ℕ). slice_index v.now p) cell_looked cell_written
    (step (with_rates_of d s) (word d.seed d.quantum) c.args.i i.front) i.cells c.step-act.new.view c.step-act.new.creature c.step-act.result) draws
    c.step-act.ensures.executes in
    let r = subst (λ (v : SceneFields). SceneReady v (n + 1)) (sym c.self.view_is) h in
    let f = c.step-act.ensures.after in
    let k = c.step-act.ensures.ready in
    let u : CellsFields = c.step-act.new.view in
    let e : Creature = c.step-act.new.creature in
    let a = c.step-act.result in
    let er' : ℕ = c.do_act.new.events.cap - c.do_act.new.events.len in
    let room : er ≤ er' + 1 = omega (arith, c.do_act.ensures.events_len, c.do_act.ensures.events_room) in
    let size : s.soup_size ≡ i.free.size = ap (λ (z : Settings). z.soup_size) settings ∙ sym r.size in
    let ready : FrontReady i.free.size n e = record {
      ip = omega (arith, k.ip, size);
      sp = k.sp;
      own = subst (IsBlock i.free.size) (sym f.own) r.front.own;
      daughter = subst (λ (o : Option Block). IfSome o (IsBlock i.free.size)) (sym f.daughter) r.front.daughter;
      errors = omega (arith, f.errors, r.front.errors);
      moved = omega (arith, f.moved, r.front.moved);
      ran = omega (arith, f.ran, r.front.ran);
      bred = omega (arith, f.bred, r.front.bred);
    } in
    let y : SceneFields = fields_from i.job.now e u i.free c.do_act.new.yard.items i.free_noted i.yard_noted c.do_act.new.events.items i.newborns er' yr in
    let end : fields_after x (u, (e, a)) i.free.size er' yr i.free.spare ≡ y =
    (λ j. fields_from i.job.now e u i.free (sym c.do_act.ensures.yard j) i.free_noted i.yard_noted (sym c.do_act.ensures.events j) i.newborns er' yr) in
    roomier y n c.do_act.new.yard.room c.do_act.ensures.yard_room
    (subst (λ (v : SceneFields). SceneReady v n) end (ready_then s (word s.seed q) c.args.i i.cells x i.free.size er yr i.free.spare (n + 1) settings
    c.self.invariant r c.step-act.new.view c.step-act.new.creature c.step-act.result left er' n (omega arith) room ready))
