use Rattle.std.proofs.Common.{rules, ◌≡◌, ◌++◌, ◌∷◌, []}
use Rattle.genotype_probe.proofs.Parts.{gathered_more}
use Rattle.genotype_probe.proofs.dealing.gathered.Goals as goal

pub loop-place-preserved : goal.loop-place-preserved
loop-place-preserved c =
    let pushed : c.push.new.self.items ≡ c.loop-place.all.items ++ c.dealt.result ∷ [] = search rules in
    gathered_more c.args.saved.now c.args.n c.loop-place.place c.loop-place.all.items c.push.new.self.items c.dealt.result c.loop-place-test.true
    c.loop-place.invariant c.dealt.ensures pushed
