use Rattle.tierra_dis.proofs.Digits.{IsSpelled}
use Rattle.tierra_dis.proofs.hex_text.hex_line.Given as goal

abbrev pub invariant-loop-index : goal.invariant-loop-index
invariant-loop-index l = IsSpelled l.code l.index l.items.items
