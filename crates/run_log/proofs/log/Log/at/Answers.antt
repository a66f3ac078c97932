use Rattle.std.proofs.Common.{◌≡◌, ◌∙◌, ap}
use Rattle.run_log.specs.Records.{LogFields, point_of}
use Rattle.run_log.specs.Entries.{records_of}
use Rattle.run_log.proofs.Entries.{point-at}
use Rattle.run_log.proofs.log.Log.at.Goals as goal

pub returns : goal.returns
returns c =
    let v : LogFields = c.args.self.now in
    let records : records_of c.self.inside.entries.items ≡ v.records = ap (λ (v : LogFields). v.records) c.self.view_is in
    c.point_before.ensures
    ∙ ap (point_of v.inoculated)
    (point-at v.records c.self.inside.entries.items c.deref.result.now c.args.quantum c.entries_up_to.result records c.deref.ensures.value
    c.entries_up_to.ensures.parted c.entries_up_to.ensures.within)
