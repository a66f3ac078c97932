use Rattle.std.proofs.Common.{rules, tests, ◌∙◌}
use Rattle.std.proofs.lemmas.Iterator.{YieldsList-from_slice}
use Rattle.std.proofs.lemmas.Iterator.Search.{position_from_yields_List}
use Rattle.tierra_asm.specs.Words.{is_line_feed}
use Rattle.tierra_asm.proofs.Parts.{unwrap_or_position}
use Rattle.tierra_asm.proofs.word_reader.comment_len.Goals as goal

pub returns : goal.returns
returns c =
    let first = position_from_yields_List is_line_feed _ _ c.position.result c.position.ensures.ran (YieldsList-from_slice c.args.bytes.now cc)
    (λ x b q k. search (rules, tests)) in
    c.unwrap_or.ensures ∙ unwrap_or_position is_line_feed c.args.bytes.now c.position.result first
