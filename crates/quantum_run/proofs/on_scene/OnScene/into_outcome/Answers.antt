use Rattle.std.proofs.Common.{◌≡◌, ◌∙◌, ap, sym, subst}
use Rattle.std.specs.List.{list_any}
use Rattle.std.specs.Prelude.{◌||◌}
use Rattle.tierra_model.specs.Reads.{Reads, is_noted, writes}
use Rattle.tierra_model.specs.SceneRun.{SceneRun}
use Rattle.quantum_run.specs.OnScene.{SceneFields, SceneReady}
use Rattle.quantum_run.proofs.Forgetting.{known-are}
use Rattle.quantum_run.proofs.Happening.{run_from}
use Rattle.quantum_run.proofs.on_scene.OnScene.into_outcome.Goals as goal

pub forget-requires : goal.forget-requires
forget-requires c =
    let i = c.self.inside in
    let x : SceneRun =
    run_from i.job.now i.front i.cells.now i.free.free i.yard.items i.cells.reads.cells i.free_noted i.yard_noted i.events.items i.newborns in
    let r = subst (λ (v : SceneFields). SceneReady v 0) (sym c.self.view_is) c.requires.ready in
    let cells : c.cells.result.now ≡ i.cells.reads.cells = c.cells.ensures ∙ ap (λ (n : Reads). n.cells) c.into_parts-reads.ensures.reads in
    let events : c.deref.result.now ≡ i.events.items = c.deref.ensures.value in
    λ p below here.
    (λ j. is_noted (cells j) p || list_any (writes p) (events j))
    ∙ known-are x i.cells.known i.free.size c.into_parts-reads.result.1.items c.into_parts-reads.ensures.marks r.marks r.known p below here
