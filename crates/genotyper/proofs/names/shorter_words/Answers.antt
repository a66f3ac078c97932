use Rattle.std.proofs.Common.{◌+◌, ◌≤◌, arith}
use Rattle.genotyper.proofs.Words.{shorter_words-closed, shorter_words-next, words-next, words_fit}
use Rattle.genotyper.proofs.names.shorter_words.Goals as goal

pub overflow_add-all : goal.overflow_add-all
overflow_add-all c =
    let few : c.loop.counter ≤ 10 = omega arith in
    omega (arith, shorter_words-closed c.loop.counter, words_fit c.loop.counter few)

pub overflow_mul-words : goal.overflow_mul-words
overflow_mul-words c =
    let few : c.loop.counter + 1 ≤ 10 = omega arith in
    omega (arith, words-next c.loop.counter, words_fit (c.loop.counter + 1) few)

pub loop-preserved : goal.loop-preserved
loop-preserved c = (omega (arith, shorter_words-next c.loop.counter), omega (arith, words-next c.loop.counter))

pub returns-clause-fits : goal.returns-clause-fits
returns-clause-fits c =
    let few : c.loop.counter ≤ 10 = omega arith in
    omega (arith, shorter_words-closed c.loop.counter, words_fit c.loop.counter few)
