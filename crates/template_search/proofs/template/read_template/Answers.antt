use Rattle.std.proofs.Common.{arith, rules}
use Rattle.template_search.proofs.Packing.{word_below, word_goes_on}
use Rattle.template_search.proofs.Reading.{reading}
use Rattle.template_search.proofs.template.read_template.Goals as goal

pub with_byte-word-requires-clause-below : goal.with_byte-word-requires-clause-below
with_byte-word-requires-clause-below g c = word_below c.loop-len.cells c.loop-len.len c.loop-len.word c.loop-len.invariant.word

pub loop-len-preserved : goal.loop-len-preserved
loop-len-preserved g c =
    let l = c.loop-len in
    let is = l.invariant in
    record {
      size = search rules;
      place = search rules;
      ten = search (rules, reading);
      word = word_goes_on l.cells l.len c.get-cell.result l.word c.with_byte-word.result is.ten (omega arith) is.word (omega arith)
          c.with_byte-word.ensures.within c.with_byte-word.ensures.behind;
      read = search (rules, reading);
    }
