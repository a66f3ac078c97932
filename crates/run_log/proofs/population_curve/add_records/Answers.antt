use Rattle.run_log.specs.Curve.{record_line}
use Rattle.run_log.proofs.Texts.{record-next}
use Rattle.run_log.proofs.population_curve.add_records.Goals as goal

pub loop-place-preserved : goal.loop-place-preserved
loop-place-preserved c =
    record-next record_line c.args.log.now.records c.loop-place.place c.get.result c.args.text.now.items c.loop-place.text.items c.add_record.new.text.items
    c.get.ensures c.loop-place.invariant c.in_ok-add_record.ensures
