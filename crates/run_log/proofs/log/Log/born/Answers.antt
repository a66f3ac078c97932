use Rattle.std.proofs.Common.{◌≡◌, arith, length, subst, sym, ap}
use Rattle.std.proofs.lemmas.List.{length-map}
use Rattle.run_log.specs.declared.log.Point.{Point}
use Rattle.run_log.specs.declared.log.Entry.{Entry}
use Rattle.run_log.specs.Records.{LogFields}
use Rattle.run_log.specs.Entries.{IsKept, records_of}
use Rattle.run_log.proofs.Entries.{kept-birth, living-few}
use Rattle.run_log.proofs.log.Log.born.Goals as goal

pub overflow_add-last : goal.overflow_add-last
overflow_add-last c =
    let few = living-few c.args.self.now.inoculated c.args.self.now.records in
    let living = ap (λ (p : Point). p.living) c.last-last.ensures in
    let inoculated = ap (λ (v : LogFields). v.inoculated) c.self.view_is in
    let long = ap (λ (v : LogFields). length v.records) c.self.view_is in
    omega (
      arith,
      few,
      living,
      inoculated,
      long,
      length-map c.self.inside.entries.items (λ (x : Entry). x.note),
      c.self.invariant.few,
      c.self.inside.entries.ok.0,
    )

pub invariant_of-self : goal.invariant_of-self
invariant_of-self c =
    let v : LogFields = c.args.self.now in
    let inoculated : c.self.inside.inoculated ≡ v.inoculated = ap (λ (v : LogFields). v.inoculated) c.self.view_is in
    let records : records_of c.self.inside.entries.items ≡ v.records = ap (λ (v : LogFields). v.records) c.self.view_is in
    subst (IsKept c.self.inside.inoculated) (sym c.push_reserved.ensures.items)
    (rw (inoculated) (kept-birth v c.self.inside.entries.items c.args.quantum c.args.id c.last-last.result
    (subst (λ n. IsKept n c.self.inside.entries.items) inoculated c.self.invariant)
    records c.last-last.ensures c.requires.order c.requires.absent))
