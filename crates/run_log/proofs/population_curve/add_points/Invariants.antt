use Rattle.std.proofs.Common.{◌≡◌, ◌++◌}
use Rattle.std.specs.Prelude.{filter}
use Rattle.std.specs.List.{flat_map, range_with_len}
use Rattle.run_log.specs.Curve.{is_shown, point_line}
use Rattle.run_log.specs.Records.{point_of, up_to}
use Rattle.run_log.proofs.population_curve.add_points.Given as goal

abbrev pub invariant-loop-quantum : goal.invariant-loop-quantum
invariant-loop-quantum l =
    l.text.items ≡ l.fn.text.items
    ++ flat_map (λ q. point_line q (point_of l.log.inoculated (up_to q l.log.records))) (filter (is_shown l.quanta l.every) (range_with_len 0 l.quantum))
