use Rattle.std.proofs.Common.{◌≡◌, ◌-◌, length, sym, ◌∙◌, ap, subst, arith}
use Rattle.tierra_model.specs.SceneRun.{SceneRun, scene_machine}
use Rattle.quantum_run.specs.OnScene.{SceneFields, SceneReady}
use Rattle.tierra_model.specs.Queue.{number_of_others}
use Rattle.quantum_run.proofs.Happening.{run_from}
use Rattle.quantum_run.proofs.Owning.{others_count}
use Rattle.quantum_run.proofs.on_scene.OnSceneGround.others.Goals as goal

pub overflow_sub-result : goal.overflow_sub-result
overflow_sub-result c =
    let i = c.self.inside in
    let x : SceneRun =
    run_from i.job.now i.front i.cells.now i.free.free i.yard.items i.cells.reads.cells i.free_noted i.yard_noted i.events.items i.newborns in
    let r = subst (λ (v : SceneFields). SceneReady v 0) (sym c.self.view_is) c.requires in
    let len : length c.items.result.now ≡ length i.yard.items = ap length c.items.ensures in
    omega (arith, others_count x r.shadows, len)

pub returns : goal.returns
returns c =
    let i = c.self.inside in
    let x : SceneRun =
    run_from i.job.now i.front i.cells.now i.free.free i.yard.items i.cells.reads.cells i.free_noted i.yard_noted i.events.items i.newborns in
    let r = subst (λ (v : SceneFields). SceneReady v 0) (sym c.self.view_is) c.requires in
    let len : length c.items.result.now ≡ length i.yard.items = ap length c.items.ensures in
    let is : length c.items.result.now - 1 ≡ number_of_others x.now.front.id (scene_machine.reaper x) = omega (arith, others_count x r.shadows, len) in
    is ∙ ap (λ (v : SceneFields). number_of_others v.run.now.front.id (scene_machine.reaper v.run)) c.self.view_is
