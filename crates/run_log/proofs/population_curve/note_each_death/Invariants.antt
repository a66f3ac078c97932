use Rattle.std.proofs.Common.{◌≡◌, ◌++◌, drop, map, take}
use Rattle.std.specs.Prelude.{filter, not}
use Rattle.run_log.specs.Curve.{lives}
use Rattle.run_log.specs.declared.record.Record.TheVariants.{Death}
use Rattle.run_log.specs.Records.{living_in}
use Rattle.run_log.proofs.population_curve.note_each_death.Given as goal

abbrev pub invariant-loop-id : goal.invariant-loop-id
invariant-loop-id l = record {
  inoculated : l.log.inoculated ≡ l.fn.log.inoculated;
  left : l.left.items ≡ filter (lives l.run) (take l.id-index l.living);
  records : l.log.records ≡ l.fn.log.records ++ map (λ id. Death l.quantum id) (filter (λ id. not (lives l.run id)) (take l.id-index l.living));
  same : living_in l.log.inoculated l.log.records ≡ l.left.items ++ drop l.id-index l.living;
}
