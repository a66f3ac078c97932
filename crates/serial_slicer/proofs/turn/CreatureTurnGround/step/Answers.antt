use Rattle.std.proofs.Common.{◌+◌, arith}
use Rattle.serial_slicer.proofs.Steps.{can_step, erred_is, erred_runs, none_is, step_frame, step_is, step_left, step_ready}
use Rattle.serial_slicer.proofs.Turns.{few}
use Rattle.serial_slicer.proofs.turn.CreatureTurnGround.step.Goals as goal

pub step-act-requires-clause-ready : goal.step-act-requires-clause-ready
step-act-requires-clause-ready g c =
    let t = c.args.self.now in
    can_step c.args.settings.now t.creature t.sole.now 1 c.requires.ready c.requires.settings

pub step-act-requires-clause-errors : goal.step-act-requires-clause-errors
step-act-requires-clause-errors g c =
    let t = c.args.self.now in
    omega (arith, (few t.creature t.sole.now 1 c.requires.ready).0)

pub err-requires : goal.err-requires
err-requires g c =
    let t = c.args.self.now in
    erred_runs c.args.draws.now c.args.settings.now (t.sole.now.world.quanta + 1) c.args.i 0 t.creature c.step-act.new.creature t.sole.now c.step-act.new.view
    c.step-act.result c.requires.ready c.requires.settings c.requires.draws
    c.step-act.ensures.executes c.in-Erred.is

pub returns-in-Erred-clause-step : goal.returns-in-Erred-clause-step
returns-in-Erred-clause-step g c =
    let t = c.args.self.now in
    step_is c.args.draws.now c.args.settings.now (t.sole.now.world.quanta + 1) c.args.i 0 t.creature c.step-act.new.creature t.sole.now c.step-act.new.view
    c.step-act.result c.requires.ready c.requires.settings c.requires.draws
    c.step-act.ensures.executes
    c.err.new.self (erred_is c.step-act.result c.step-act.new.view c.err.new.self c.in-Erred.is c.err.ensures)

pub returns-in-Erred-clause-left : goal.returns-in-Erred-clause-left
returns-in-Erred-clause-left g c =
    let t = c.args.self.now in
    step_left c.args.draws.now c.args.settings.now (t.sole.now.world.quanta + 1) c.args.i 0 t.creature c.step-act.new.creature t.sole.now c.step-act.new.view
    c.step-act.result c.requires.ready c.requires.settings c.requires.draws
    c.step-act.ensures.executes
    c.err.new.self (erred_is c.step-act.result c.step-act.new.view c.err.new.self c.in-Erred.is c.err.ensures) c.step-act.ensures.ready c.step-act.ensures.after

pub returns-in-Erred-clause-frame : goal.returns-in-Erred-clause-frame
returns-in-Erred-clause-frame g c =
    let t = c.args.self.now in
    step_frame c.args.draws.now c.args.settings.now (t.sole.now.world.quanta + 1) c.args.i 0 t.creature c.step-act.new.creature t.sole.now c.step-act.new.view
    c.step-act.result c.requires.ready c.requires.settings c.requires.draws
    c.step-act.ensures.executes
    c.err.new.self (erred_is c.step-act.result c.step-act.new.view c.err.new.self c.in-Erred.is c.err.ensures) t.sole.ghost_name

pub returns-in-Erred-clause-ready : goal.returns-in-Erred-clause-ready
returns-in-Erred-clause-ready g c = λ n r.
    let t = c.args.self.now in
    step_ready c.args.draws.now c.args.settings.now (t.sole.now.world.quanta + 1) c.args.i n t.creature c.step-act.new.creature t.sole.now c.step-act.new.view
    c.step-act.result r c.requires.settings c.requires.draws
    c.step-act.ensures.executes
    c.err.new.self (erred_is c.step-act.result c.step-act.new.view c.err.new.self c.in-Erred.is c.err.ensures) c.step-act.ensures.ready c.step-act.ensures.after

pub returns-in_default-clause-step : goal.returns-in_default-clause-step
returns-in_default-clause-step g c =
    let t = c.args.self.now in
    step_is c.args.draws.now c.args.settings.now (t.sole.now.world.quanta + 1) c.args.i 0 t.creature c.step-act.new.creature t.sole.now c.step-act.new.view
    c.step-act.result c.requires.ready c.requires.settings c.requires.draws
    c.step-act.ensures.executes
    c.step-act.new.view (none_is c.step-act.result c.step-act.new.view c.in_default.not-Erred)

pub returns-in_default-clause-left : goal.returns-in_default-clause-left
returns-in_default-clause-left g c =
    let t = c.args.self.now in
    step_left c.args.draws.now c.args.settings.now (t.sole.now.world.quanta + 1) c.args.i 0 t.creature c.step-act.new.creature t.sole.now c.step-act.new.view
    c.step-act.result c.requires.ready c.requires.settings c.requires.draws
    c.step-act.ensures.executes
    c.step-act.new.view (none_is c.step-act.result c.step-act.new.view c.in_default.not-Erred) c.step-act.ensures.ready c.step-act.ensures.after

pub returns-in_default-clause-frame : goal.returns-in_default-clause-frame
returns-in_default-clause-frame g c =
    let t = c.args.self.now in
    step_frame c.args.draws.now c.args.settings.now (t.sole.now.world.quanta + 1) c.args.i 0 t.creature c.step-act.new.creature t.sole.now c.step-act.new.view
    c.step-act.result c.requires.ready c.requires.settings c.requires.draws
    c.step-act.ensures.executes
    c.step-act.new.view (none_is c.step-act.result c.step-act.new.view c.in_default.not-Erred) t.sole.ghost_name

pub returns-in_default-clause-ready : goal.returns-in_default-clause-ready
returns-in_default-clause-ready g c = λ n r.
    let t = c.args.self.now in
    step_ready c.args.draws.now c.args.settings.now (t.sole.now.world.quanta + 1) c.args.i n t.creature c.step-act.new.creature t.sole.now c.step-act.new.view
    c.step-act.result r c.requires.settings c.requires.draws
    c.step-act.ensures.executes
    c.step-act.new.view (none_is c.step-act.result c.step-act.new.view c.in_default.not-Erred) c.step-act.ensures.ready c.step-act.ensures.after
