use Rattle.std.proofs.Common.{◌≡◌, sym, ◌∙◌, ap, subst}
use Rattle.tierra_model.specs.Scene.{Scene}
use Rattle.tierra_model.specs.SceneRun.{SceneRun, run_in_scene}
use Rattle.tierra_model.proofs.Each.{all_from_each}
use Rattle.quantum_run.specs.Marks.{IsUnknown}
use Rattle.quantum_run.specs.Outcomes.{IsOutcome}
use Rattle.quantum_run.proofs.Running.{ran_in_scene, start_is}
use Rattle.quantum_run.proofs.workspace.Workspace.outcome_of.Goals as goal

pub into_outcome-outcome-requires-clause-run : goal.into_outcome-outcome-requires-clause-run
into_outcome-outcome-requires-clause-run g c =
    let scene : Scene = c.args.job.now in
    let y : SceneRun = c.run_slice.new.ground.run in
    let is : y ≡ run_in_scene scene =
    ran_in_scene scene c.settings-settings.result.now c.quantum-quantum.result c.slice_of-slice.result c.front.result.now c.in_ok-scene.scene.run y
    c.settings-settings.ensures.settings c.quantum-quantum.ensures c.front.ensures c.slice_of-slice.ensures c.in_ok-scene.ensures.run c.in-Ok.ensures.state in
    is ∙ ap run_in_scene (sym (ap (λ (x : SceneRun). x.start) is ∙ start_is scene))

pub invariant_of-drop : goal.invariant_of-drop
invariant_of-drop g c =
    record { kept = all_from_each IsUnknown c.into_outcome-outcome.result.1.items c.into_outcome-outcome.ensures.marks }

pub returns-clause-outcome : goal.returns-clause-outcome
returns-clause-outcome g c =
    let scene : Scene = c.args.job.now in
    let y : SceneRun = c.run_slice.new.ground.run in
    let is : y ≡ run_in_scene scene =
    ran_in_scene scene c.settings-settings.result.now c.quantum-quantum.result c.slice_of-slice.result c.front.result.now c.in_ok-scene.scene.run y
    c.settings-settings.ensures.settings c.quantum-quantum.ensures c.front.ensures c.slice_of-slice.ensures c.in_ok-scene.ensures.run c.in-Ok.ensures.state in
    subst (λ (t : Scene). IsOutcome t c.into_outcome-outcome.result.0)
    (ap (λ (x : SceneRun). x.start) is ∙ start_is scene) c.into_outcome-outcome.ensures.outcome
