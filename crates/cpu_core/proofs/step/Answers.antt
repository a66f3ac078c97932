use Rattle.tierra_model.specs.Draw.{word}
use Rattle.cpu_core.proofs.Readiness.{is_after, still_ready}
use Rattle.cpu_core.proofs.Stepping.{step_executes}
use Rattle.cpu_core.proofs.step.Goals as goal

pub returns-clause-executes : goal.returns-clause-executes
returns-clause-executes g c =
    step_executes _ _ _ c.args.draws.now c.args.settings.now _ _ _ c.args.creature.now _ _ c.args.view.now _ _ _ c.get.ensures.value c.decode-op.ensures
    c.get.ensures.after c.begin.ensures c.execute.ensures.executes

pub returns-clause-ready : goal.returns-clause-ready
returns-clause-ready g c =
    let v = g.V.View in
    let law = g.met.V.View in
    still_ready _ _ _ _ _ law.look_keeps_size law.look_keeps_cells law.look_keeps_writable law.write_keeps_size law.write_sets_cell law.write_keeps_writable
    c.args.draws.now c.args.settings.now (word c.args.draws.now.seed c.args.draws.now.quantum) c.args.i c.args.creature.now _ c.args.view.now _ _
    c.requires.ready (returns-clause-executes g c)

pub returns-clause-after : goal.returns-clause-after
returns-clause-after g c =
    let v = g.V.View in
    let law = g.met.V.View in
    is_after v.size v.cells v.writable v.looked v.written law.look_keeps_size law.look_keeps_cells law.look_keeps_writable law.write_keeps_size
    law.write_sets_cell law.write_keeps_writable
    c.args.draws.now c.args.settings.now (word c.args.draws.now.seed c.args.draws.now.quantum) c.args.i c.args.creature.now _ c.args.view.now _ _
    c.requires.ready (returns-clause-executes g c)
