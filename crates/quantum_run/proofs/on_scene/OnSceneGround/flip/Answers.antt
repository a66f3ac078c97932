use Rattle.std.proofs.Common.{◌≡◌, ◌+◌, ◌-◌, ◌<◌, ◌≤◌, ℕ, sym, ◌∙◌, ap, subst, arith}
use Rattle.std.specs.Prelude.{Some}
use Rattle.tierra_model.specs.declared.events.Event.TheVariants as event
use Rattle.tierra_model.specs.SceneRun.{SceneRun, scene_machine}
use Rattle.quantum_run.specs.OnScene.{SceneFields, SceneReady}
use Rattle.std.specs.Prelude.{slice_index}
use Rattle.tierra_model.specs.Step.{flip_bit}
use Rattle.tierra_model.specs.SceneRun.{with_noted_cell}
use Rattle.quantum_run.specs.Seen.{CellsFields, cell_looked, cell_written}
use Rattle.quantum_run.proofs.Happening.{fields_from, run_from}
use Rattle.quantum_run.proofs.Stepping.{ready-write, scene_codes, with_write, write_is}
use Rattle.quantum_run.proofs.Walking.{fields, join, ready-look}
use Rattle.quantum_run.proofs.on_scene.OnSceneGround.flip.Goals as goal

pub flip_bit-value-requires-clause-value : goal.flip_bit-value-requires-clause-value
flip_bit-value-requires-clause-value c =
    let i = c.self.inside in
    let x : SceneRun =
    run_from i.job.now i.front i.cells.now i.free.free i.yard.items i.cells.reads.cells i.free_noted i.yard_noted i.events.items i.newborns in
    let r = subst (λ (v : SceneFields). SceneReady v 1) (sym c.self.view_is) c.requires.ready in
    subst (λ (k : ℕ). k < 32) (sym c.get.ensures.value) (scene_codes x r.shadows c.args.at)

pub returns-clause-state : goal.returns-clause-state
returns-clause-state c =
    let i = c.self.inside in
    let x : SceneRun =
    run_from i.job.now i.front i.cells.now i.free.free i.yard.items i.cells.reads.cells i.free_noted i.yard_noted i.events.items i.newborns in
    let r = subst (λ (v : SceneFields). SceneReady v 1) (sym c.self.view_is) c.requires.ready in
    let at = c.args.at in
    let er : ℕ = i.events.cap - i.events.len in
    let yr : ℕ = i.yard.room in
    let below : at < i.free.size = subst (λ (k : ℕ). at < k) (sym r.size)
    (subst (λ (v : SceneFields). at < v.run.start.settings.soup_size) (sym c.self.view_is) c.requires.inside) in
    let looked = ready-look x i.free.size er yr i.free.spare 1 i.cells at (c.self.invariant, r) below in
    let u : CellsFields = cell_looked i.cells at in
    let value = c.flip_bit-value.result in
    let w : CellsFields = cell_written u at value in
    let is : c.write.new.self ≡ w = c.write.ensures ∙ ap (λ (v : CellsFields). cell_written v at value) c.get.ensures.after in
    let flipped : value ≡ flip_bit (slice_index i.cells.now at) (Some c.args.bit) =
    c.flip_bit-value.ensures.flip ∙ ap (λ (k : ℕ). flip_bit k (Some c.args.bit)) c.get.ensures.value in
    let y : SceneRun = join u x in
    (λ j. run_from i.job.now i.front (is j).now i.free.free i.yard.items (is j).reads.cells i.free_noted i.yard_noted (c.push_reserved.ensures.items j)
    i.newborns)
    ∙ write_is y at value
    ∙ ap (λ (k : ℕ). scene_machine.apply y (event.Write at k)) flipped
    ∙ ap (λ (z : SceneRun). scene_machine.apply z (event.Write at (flip_bit (slice_index i.cells.now at) (Some c.args.bit)))) looked.1
    ∙ ap (λ (v : SceneFields). scene_machine.apply (with_noted_cell v.run at) (event.Write at (flip_bit (slice_index v.run.now.soup at) (Some c.args.bit))))
    c.self.view_is

pub returns-clause-ready : goal.returns-clause-ready
returns-clause-ready c = λ n h.
    let i = c.self.inside in
    let x : SceneRun =
    run_from i.job.now i.front i.cells.now i.free.free i.yard.items i.cells.reads.cells i.free_noted i.yard_noted i.events.items i.newborns in
    let r = subst (λ (v : SceneFields). SceneReady v (n + 1)) (sym c.self.view_is) h in
    let at = c.args.at in
    let er : ℕ = i.events.cap - i.events.len in
    let yr : ℕ = i.yard.room in
    let below : at < i.free.size = subst (λ (k : ℕ). at < k) (sym r.size)
    (subst (λ (v : SceneFields). at < v.run.start.settings.soup_size) (sym c.self.view_is) c.requires.inside) in
    let looked = ready-look x i.free.size er yr i.free.spare (n + 1) i.cells at (c.self.invariant, r) below in
    let u : CellsFields = cell_looked i.cells at in
    let value = c.flip_bit-value.result in
    let w : CellsFields = cell_written u at value in
    let is : c.write.new.self ≡ w = c.write.ensures ∙ ap (λ (v : CellsFields). cell_written v at value) c.get.ensures.after in
    let flipped : value ≡ flip_bit (slice_index i.cells.now at) (Some c.args.bit) =
    c.flip_bit-value.ensures.flip ∙ ap (λ (k : ℕ). flip_bit k (Some c.args.bit)) c.get.ensures.value in
    let er' : ℕ = c.push_reserved.new.self.cap - c.push_reserved.new.self.len in
    let room : er ≤ er' + 1 = omega (arith, c.push_reserved.ensures.len, c.push_reserved.ensures.capacity) in
    let end : with_write at value er' (fields u x i.free.size er yr i.free.spare)
    ≡ fields_from i.job.now i.front c.write.new.self i.free i.yard.items i.free_noted i.yard_noted c.push_reserved.new.self.items i.newborns er' yr =
    (λ j. fields_from i.job.now i.front (sym is j) i.free i.yard.items i.free_noted i.yard_noted (sym c.push_reserved.ensures.items j) i.newborns er' yr) in
    subst (λ (v : SceneFields). SceneReady v n) end
    (ready-write at value er' (fields u x i.free.size er yr i.free.spare) (n + 1) n (omega arith) room looked.0.1 below c.flip_bit-value.ensures.below)
