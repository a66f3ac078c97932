use Rattle.std.proofs.Common.{◌≤◌, arith, lit<}
use Rattle.std.proofs.Math.Nat.{one-le-pow}
use Rattle.std.proofs.lemmas.Grind.{pow_more}
use Rattle.genotyper.proofs.Words.{few_letters, word_from-here, word_from-step}
use Rattle.genotyper.proofs.names.push_letters.Goals as goal

pub loop-words-smaller : goal.loop-words-smaller
loop-words-smaller c = omega (arith, one-le-pow c.loop-words.letters 26 (lit< tt), c.loop-words.invariant.0, c.loop-words-test.true)

pub loop-words-preserved : goal.loop-words-preserved
loop-words-preserved c =
    let (lengths, enough, is) = c.loop-words.invariant.2 in
    let few : c.loop-words.letters ≤ 13 = few_letters c.loop-words.letters (omega arith) in (
      omega (arith, pow_more 26 c.loop-words.letters),
      omega arith,
      word_from-step lengths c.loop-words.letters c.loop-words.left c.loop-words.words _ c.loop-words.invariant.0 (omega arith) enough is,
    )

pub returns : goal.returns
returns c =
    let (lengths, _, is) = c.loop-words.invariant.2 in
    let here = word_from-here lengths c.loop-words.letters c.loop-words.left (omega arith) in
    rw (← is, here) c.push_word.ensures
