use Rattle.std.proofs.Common.{◌≡◌, length}
use denote.Text.{Utf8}
use denote.Shadow.{shadow}
use Rattle.tierra_asm.specs.Words.{words_from}
use Rattle.tierra_asm.proofs.word_reader.next_word.Given as goal

abbrev pub invariant-loop-next_line : goal.invariant-loop-next_line
invariant-loop-next_line l = record { text : shadow (Utf8 l.rest); same : words_from l.line l.rest ≡ words_from l.fn.line l.fn.rest }

abbrev pub decreases-loop-next_line : goal.decreases-loop-next_line
decreases-loop-next_line l = length l.rest
