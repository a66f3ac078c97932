use Rattle.std.proofs.Common.{All, FitsSigned, get_or, pos, rules, subst}
use Rattle.std.proofs.lemmas.List.{take_all}
use Rattle.std.proofs.lemmas.List.Elements.{All-more}
use Rattle.std.specs.Int.{w32}
use Rattle.world_core.proofs.fitting.words_fit.Goals as goal

pub loop-word-preserved : goal.loop-word-preserved
loop-word-preserved c =
    let words = c.args.words.now in
    let k = c.loop-word.word-index in
    let fits : FitsSigned w32 (get_or words k (pos 0)) = search rules in
    All-more (FitsSigned w32) words k (pos 0) c.loop-word-test.true c.loop-word.invariant fits

pub returns : goal.returns
returns c =
    subst (All (FitsSigned w32)) (take_all c.loop-word.word-index c.args.words.now c.loop-word-test.false) c.loop-word.invariant
