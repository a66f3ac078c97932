use Rattle.std.proofs.Common.{◌≡◌, length}
use Rattle.tierra_model.specs.Living.{ids_of}
use Rattle.tierra_model.specs.Serial.{serial, start}
use Rattle.run_log.specs.Curve.{run_records}
use Rattle.run_log.proofs.population_curve.log_of_world.Given as goal

abbrev pub invariant-loop-before : goal.invariant-loop-before
invariant-loop-before l = record {
  run : l.run ≡ serial l.setup l.before;
  inoculated : l.log.inoculated ≡ length (start l.setup).living;
  records : l.log.records ≡ run_records l.setup l.before;
  living : l.living.items ≡ ids_of l.run.living;
}
