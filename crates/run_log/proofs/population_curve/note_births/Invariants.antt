use Rattle.std.proofs.Common.{◌≡◌, ◌++◌, ◌-◌, map}
use Rattle.std.specs.List.{range_with_len}
use Rattle.run_log.specs.declared.record.Record.TheVariants.{Birth}
use Rattle.run_log.specs.Records.{living_in}
use Rattle.run_log.proofs.population_curve.note_births.Given as goal

abbrev pub invariant-loop-id : goal.invariant-loop-id
invariant-loop-id l = record {
  inoculated : l.log.inoculated ≡ l.fn.log.inoculated;
  living : l.living.items ≡ l.fn.living.items ++ range_with_len l.first (l.id - l.first);
  records : l.log.records ≡ l.fn.log.records ++ map (λ id. Birth l.quantum id) (range_with_len l.first (l.id - l.first));
  same : l.living.items ≡ living_in l.log.inoculated l.log.records;
}
