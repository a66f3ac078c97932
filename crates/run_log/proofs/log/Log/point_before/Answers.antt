use Rattle.std.proofs.Common.{◌≡◌, ◌∙◌, arith, length, subst, sym, ap, take}
use Rattle.std.proofs.lemmas.List.{length-map}
use Rattle.run_log.specs.declared.log.Entry.{Entry}
use Rattle.run_log.specs.Records.{LogFields, point_of}
use Rattle.run_log.specs.Entries.{IsKept, records_of}
use Rattle.run_log.proofs.Entries.{point-before, point-none}
use Rattle.run_log.proofs.log.Log.point_before.Goals as goal

pub returns-then-after-eq0 : goal.returns-then-after-eq0
returns-then-after-eq0 c =
    point-none c.self.inside.inoculated ∙ ap (λ n. point_of n (take 0 c.args.self.now.records)) (ap (λ (v : LogFields). v.inoculated) c.self.view_is)
    ∙ ap (λ n. point_of c.args.self.now.inoculated (take n c.args.self.now.records)) (sym c.if-after-eq0.true)

pub returns : goal.returns
returns c =
    let v : LogFields = c.args.self.now in
    let inoculated : c.self.inside.inoculated ≡ v.inoculated = ap (λ (v : LogFields). v.inoculated) c.self.view_is in
    let records : records_of c.self.inside.entries.items ≡ v.records = ap (λ (v : LogFields). v.records) c.self.view_is in
    let long : length (records_of c.self.inside.entries.items) ≡ length v.records = ap length records in
    point-before v c.self.inside.entries.items c.args.after c.index.result.now c.index.result.now
    (subst (λ n. IsKept n c.self.inside.entries.items) inoculated c.self.invariant) records (omega (arith, c.if-after-eq0.false))
    (omega (arith, c.requires, long, length-map c.self.inside.entries.items (λ (x : Entry). x.note))) c.index.ensures
