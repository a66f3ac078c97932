use Rattle.std.proofs.Common.{ap, arith, get_or, ◌++◌, ◌∙◌}
use Rattle.tierra_dis.specs.HexText.{digits_of}
use Rattle.tierra_dis.proofs.Digits.{spell_first, spell_more}
use Rattle.tierra_dis.proofs.hex_text.hex_line.Goals as goal
use Rattle.tierra_dis.proofs.hex_text.hex_line.Goals.{then-index-gt0+in_ok-push, else-index-gt0}

pub loop-index-preserved : goal.loop-index-preserved
loop-index-preserved c =
    let code = c.args.code.now in
    let text = c.loop-index.items.items in
    let more = c.push_digits.new.items.items in
    let pushed = c.in_ok-push_digits.ensures in
    elim c.if-index-gt0.branch [
      | then-index-gt0+in_ok-push w ↦
          spell_more code c.loop-index.index text c.if-index-gt0.items.items more (omega arith)
          (omega arith) c.loop-index.invariant (ap (λ v. v.items) w.items-is ∙ w.in_ok-push.ensures.items) pushed
      | else-index-gt0 w ↦
          spell_first code c.loop-index.index text more (omega arith)
          (omega arith) c.loop-index.invariant (pushed ∙ ap (λ v. v.items ++ digits_of (get_or code c.loop-index.index 0)) w.items-is)
    ]
