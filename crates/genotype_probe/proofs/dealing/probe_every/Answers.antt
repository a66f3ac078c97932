use Rattle.std.proofs.Common.{rules, ◌≡◌, refl}
use Rattle.std.proofs.lemmas.Option.{slice_get_read}
use Rattle.genotype_probe.specs.Probes.{probe}
use Rattle.genotype_probe.proofs.Parts.{one_more}
use Rattle.genotype_probe.proofs.dealing.probe_every.Goals as goal

pub loop-place-preserved : goal.loop-place-preserved
loop-place-preserved c =
    let s = c.index-saved-place.result in
    let is = slice_get_read c.args.saved.now _ c.loop-place.place s refl c.loop-place-test.true c.index-saved-place.is in
    let e : c.in_ok-probe.field-0 ≡ probe s.code c.args.n = search rules in
    one_more c.args.saved.now c.args.n c.args.first c.args.step c.loop-place.place c.loop-place.part.items c.push.new.self.items s
    c.in_ok-probe.field-0 c.loop-place.invariant is e (search rules)
