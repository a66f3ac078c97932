use Rattle.std.proofs.Common.{◌∙◌, ap, sym, arith, false-eqb, length}
use Rattle.std.specs.List.{position_or_len}
use Rattle.tierra_asm.specs.Words.{ends_word}
use Rattle.tierra_asm.proofs.Cuts.{cut_at_first, word_end_is_ascii, first_word}
use Rattle.tierra_asm.proofs.word_reader.WordsIterator.next.Goals as goal

pub split_at-requires : goal.split_at-requires
split_at-requires c =
    let end = c.word_len.ensures ∙ ap (position_or_len ends_word) c.as_bytes.ensures.value in
    rw end (cut_at_first ends_word word_end_is_ascii c.next_word-line.result.1.now)

pub returns-clause-steps : goal.returns-clause-steps
returns-clause-steps c =
    let end = c.word_len.ensures ∙ ap (position_or_len ends_word) c.as_bytes.ensures.value in
    let some = false-eqb _ 0 c.if-is_empty.ensures in
    sym c.self.view_is
    ∙ sym c.next_word-line.ensures.same
    ∙ first_word c.next_word-line.result.0 c.word_len.result c.next_word-line.result.1.now c.split_at.result.0.now c.split_at.result.1.now (omega arith)
    c.next_word-line.ensures.at_word end c.split_at.ensures.front c.split_at.ensures.back (omega (arith, some))

pub returns-clause-goes : goal.returns-clause-goes
returns-clause-goes c = record { on = λ _. (tt, tt, omega (arith, ap length (returns-clause-steps c))); keeps = tt; rests = λ _. tt }
