use Rattle.std.proofs.Common.{◌≡◌, ◌∙◌, ap, arith}
use Rattle.std.proofs.lemmas.Result.{IfOk-weaker}
use Rattle.tierra_model.specs.Serial.{serial}
use Rattle.tierra_model.specs.World.{World}
use Rattle.serial_slicer.specs.Onward.{after}
use Rattle.serial_slicer.proofs.Serials.{after-start, start-new}
use Rattle.serial_slicer.proofs.run_serial.Goals as goal

pub returns : goal.returns
returns c =
    IfOk-weaker c.run_on.result (λ w. w.world ≡ after c.args.n c.in_ok-start.field-0.world) (λ w. w.world ≡ serial c.args.setup.now c.args.n)
    (λ w is. is ∙ ap (after c.args.n) c.in_ok-start.ensures ∙ after-start c.args.setup.now c.args.n) c.run_on.ensures

pub run_on-requires : goal.run_on-requires
run_on-requires c =
    let none = ap (λ (w : World). w.quanta) c.in_ok-start.ensures ∙ (start-new c.args.setup.now).quanta in
    omega (arith, none, c.requires)
