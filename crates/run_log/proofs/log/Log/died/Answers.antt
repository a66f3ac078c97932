use Rattle.std.proofs.Common.{◌≡◌, subst, sym, ap}
use Rattle.run_log.specs.Records.{LogFields}
use Rattle.run_log.specs.Entries.{IsKept, records_of}
use Rattle.run_log.proofs.Entries.{kept-death}
use Rattle.run_log.proofs.log.Log.died.Goals as goal

pub invariant_of-self : goal.invariant_of-self
invariant_of-self c =
    let v : LogFields = c.args.self.now in
    let inoculated : c.self.inside.inoculated ≡ v.inoculated = ap (λ (v : LogFields). v.inoculated) c.self.view_is in
    let records : records_of c.self.inside.entries.items ≡ v.records = ap (λ (v : LogFields). v.records) c.self.view_is in
    subst (IsKept c.self.inside.inoculated) (sym c.push_reserved.ensures.items)
    (rw (inoculated) (kept-death v c.self.inside.entries.items c.args.quantum c.args.id c.last-last.result
    (subst (λ n. IsKept n c.self.inside.entries.items) inoculated c.self.invariant)
    records c.last-last.ensures c.requires.order c.requires.present))
