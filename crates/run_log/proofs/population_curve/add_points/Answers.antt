use Rattle.run_log.specs.Curve.{point_line}
use Rattle.run_log.specs.Records.{point_of, up_to}
use Rattle.run_log.proofs.Texts.{shown-next}
use Rattle.run_log.proofs.population_curve.add_points.Goals as goal

pub loop-quantum-preserved : goal.loop-quantum-preserved
loop-quantum-preserved c =
    shown-next (λ q. point_line q (point_of c.args.log.now.inoculated (up_to q c.args.log.now.records))) c.args.quanta c.args.every c.loop-quantum.quantum
    c.args.text.now.items c.loop-quantum.text.items c.add_if_shown.new.text.items c.loop-quantum.invariant c.in_ok-add_if_shown.ensures
